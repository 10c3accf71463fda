-- The lines of statements are well-formed, by induction over the statement.
use Rattle.std.specs.Prelude.{◌≡◌, List, [], ◌∷◌, map, Option, Some, None, option_map}
use Rattle.std.proofs.Common.{sym, subst}
use Rattle.mdg_tree.specs.declared.tree.Expr.{Expr}
use Rattle.mdg_tree.specs.declared.tree.Goal.{Goal}
use Rattle.mdg_tree.specs.declared.tree.Init.{Init}
use Rattle.mdg_tree.specs.declared.tree.Stmt.{Stmt}
use Rattle.mdg_tree.specs.declared.tree.Declaration.{Declaration}
use Rattle.mdg_tree.specs.declared.tree.Function.{Function}
use Rattle.mdg_tree.specs.declared.tree.Property.{Property}
use Rattle.mdg_tree.specs.declared.tree.Stmt.TheVariants as s
use Rattle.mdg_tree.specs.declared.tree.Init.TheVariants as i
use Rattle.mdg_tree.specs.declared.tree.Goal.TheVariants as g
use Rattle.mdg_tree.specs.declared.tree.Expr.TheOpen.{Goal-F, Init-F, Stmt-F}
use Rattle.mdg_tree.specs.declared.tree.Expr.TheViews.{roll-Stmt, roll-Init, roll-Goal}
use Rattle.mdg_tree.specs.declared.tree.Expr.TheFolds.{ind-Stmt, map-Stmt, map-Init, map-Goal}
use Rattle.mdg_lower.specs.declared.draft.Label.TheVariants as to
use Rattle.mdg_lower.specs.declared.scope.Scope.{Scope}
use Rattle.mdg_lower.specs.Builder.{Lines, nothing}
use Rattle.mdg_lower.specs.Statements.{expression, declarations, if_then, if_else, do_while, while_of, for_of, for_in, goal_of, leave, return_undefined, return_value, throw_value, hoisted_function, store_goal}
use Rattle.mdg_lower.specs.Forms.{sequence}
use Rattle.mdg_lower.specs.Forms as forms
use Rattle.mdg_lower.specs.Trees as l
use Rattle.mdg_lower.proofs.FormEquations as equations
use Rattle.mdg_lower.specs.WellFormed.{Counts, WellFormedLines, ScopeFits}
use Rattle.mdg_lower.proofs.WellFormedJoins.{well_formed_nothing}
use Rattle.mdg_lower.proofs.WellFormedLoops.{well_formed_doing}
use Rattle.mdg_lower.proofs.WellFormedLabels.{ResolvedLines, resolved_nothing, resolved_then, resolved_hoisted_function}
use Rattle.mdg_lower.proofs.WellFormedStatements as a
use Rattle.mdg_lower.proofs.WellFormedExpressions as v

-- the lines of a statement, and what stands at the start of the function for it, are well-formed
pub record WellFormedStmt (n : Counts) (scope : Scope) (t : Stmt) : Type 0 where
  pub lines : WellFormedLines n scope (l.lines_of_stmt t scope)
  pub hoisted : WellFormedLines n scope (l.hoisted_of t scope)
  pub hoisted_resolved : ResolvedLines (l.hoisted_of t scope)

-- the lines of a goal are well-formed
abbrev pub WellFormedGoal : Counts → Scope → Goal → Type 0
WellFormedGoal n scope t = WellFormedLines n scope (l.goal_lines t scope)

-- the lines of a loop's start are well-formed
abbrev pub WellFormedInit : Counts → Scope → Init → Type 0
WellFormedInit n scope t = WellFormedLines n scope (l.init_lines t scope)

module _ (n : Counts) (scope : Scope) (fits : ScopeFits n scope) where
  -- parts of which it is shown
  abbrev ShownStmt : Type 0
  ShownStmt = (t : Stmt) × WellFormedStmt n scope t

  abbrev ShownGoal : Type 0
  ShownGoal = (t : Goal) × WellFormedGoal n scope t

  abbrev ShownInit : Type 0
  ShownInit = (t : Init) × WellFormedInit n scope t

  abbrev ShownDeclaration : Type 0
  ShownDeclaration = (t : Declaration) × Unit {0}

  -- the parts of a block
  shown_acts : (ts : List ShownStmt) → a.WellFormedEach n scope (l.lines_of_stmts (map (λ t. t.0) ts))
  shown_acts [] = tt
  shown_acts (t ∷ ts) = (t.1.lines, shown_acts ts)

  -- the value that a declaration has
  optional_well_formed : (value : Option Expr) → a.WellFormedOptional n scope (option_map (λ e. l.operand_of e) value)
  optional_well_formed None = tt
  optional_well_formed (Some t) = v.well_formed_value n scope fits t

  -- the declarations of a `var`
  shown_declarations : (ds : List ShownDeclaration) → a.WellFormedDeclarations n scope (map l.declaration_part (map (λ t. t.0) ds))
  shown_declarations [] = tt
  shown_declarations (d ∷ ds) = (subst (a.WellFormedOptional n scope) (sym (equations.declaration-value d.0)) (optional_well_formed d.0.value), shown_declarations ds)

  -- a statement whose lines are these
  shown : (t made : Stmt) (code hoisted : Lines) → t ≡ made → l.lines_of_stmt made scope ≡ code → l.hoisted_of made scope ≡ hoisted
      → WellFormedLines n scope code → WellFormedLines n scope hoisted → ResolvedLines hoisted → WellFormedStmt n scope t
  shown t made code hoisted is acts_is hoisted_is acts_well_formed hoisted_well_formed hoisted_resolved = subst (WellFormedStmt n scope) (sym is) (record {
    lines = subst (WellFormedLines n scope) (sym acts_is) acts_well_formed;
    hoisted = subst (WellFormedLines n scope) (sym hoisted_is) hoisted_well_formed;
    hoisted_resolved = subst ResolvedLines (sym hoisted_is) hoisted_resolved;
  })

  -- a statement for which nothing stands at the start of the function
  plain : (t made : Stmt) (code : Lines) → t ≡ made → l.lines_of_stmt made scope ≡ code → l.hoisted_of made scope ≡ nothing → WellFormedLines n scope code → WellFormedStmt n scope t
  plain t made code is acts_is hoisted_is acts_well_formed = shown t made code nothing is acts_is hoisted_is acts_well_formed (well_formed_nothing n scope) resolved_nothing

  -- a statement's form, with what is shown of its parts
  abbrev Layer : Type 0
  Layer = Stmt-F ((t : Expr) × Unit {0}) ShownGoal ShownInit ShownStmt ShownDeclaration ((t : Function) × Unit {0}) ((t : Property) × Unit {0})

  -- the layer without what is shown of its parts
  abbrev bare : Layer → Stmt-F Expr Goal Init Stmt Declaration Function Property
  bare = map-Stmt ((t : Expr) × Unit {0}) ShownGoal ShownInit ShownStmt ShownDeclaration ((t : Function) × Unit {0}) ((t : Property) × Unit {0})
      Expr Goal Init Stmt Declaration Function Property (λ t. t.0) (λ t. t.0) (λ t. t.0) (λ t. t.0) (λ t. t.0) (λ t. t.0) (λ t. t.0)

  -- of each form
  layer : (y : Layer) → WellFormedStmt n scope (roll-Stmt (bare y))
  layer (Stmt-F.Block at body) = plain _ (s.Block at (map (λ t. t.0) body)) (sequence (l.lines_of_stmts (map (λ t. t.0) body)) scope) (s.rolls-Block at (map (λ t. t.0) body)) (equations.lines-Block at (map (λ t. t.0) body) scope) (equations.hoisted-Block at (map (λ t. t.0) body) scope)
      (a.well_formed_sequence n scope fits _ (shown_acts body))
  layer (Stmt-F.Var at ds) = plain _ (s.Var at (map (λ t. t.0) ds)) (declarations scope at (map l.declaration_part (map (λ t. t.0) ds))) (s.rolls-Var at (map (λ t. t.0) ds)) (equations.lines-Var at (map (λ t. t.0) ds) scope) (equations.hoisted-Var at (map (λ t. t.0) ds) scope)
      (a.well_formed_declarations n scope fits at _ (shown_declarations ds))
  layer (Stmt-F.Empty at) = plain _ (s.Empty at) (nothing) (s.rolls-Empty at) (equations.lines-Empty at scope) (equations.hoisted-Empty at scope)
      (well_formed_nothing n scope)
  layer (Stmt-F.Expression at value) = plain _ (s.Expression at value.0) (expression scope (l.operand_of value.0)) (s.rolls-Expression at value.0) (equations.lines-Expression at value.0 scope) (equations.hoisted-Expression at value.0 scope)
      (a.well_formed_expression n scope fits _ (v.well_formed_value n scope fits value.0))
  layer (Stmt-F.If at test body) = plain _ (s.If at test.0 body.0) (if_then scope at (l.operand_of test.0) (l.lines_of_stmt body.0 scope)) (s.rolls-If at test.0 body.0) (equations.lines-If at test.0 body.0 scope) (equations.hoisted-If at test.0 body.0 scope)
      (a.well_formed_when n scope fits at _ _ (v.well_formed_value n scope fits test.0) body.1.lines)
  layer (Stmt-F.IfElse at test body otherwise) = plain _ (s.IfElse at test.0 body.0 otherwise.0) (if_else scope at (l.operand_of test.0) (l.lines_of_stmt body.0 scope) (l.lines_of_stmt otherwise.0 scope)) (s.rolls-IfElse at test.0 body.0 otherwise.0) (equations.lines-IfElse at test.0 body.0 otherwise.0 scope) (equations.hoisted-IfElse at test.0 body.0 otherwise.0 scope)
      (a.well_formed_choice n scope fits at _ _ _ (v.well_formed_value n scope fits test.0) body.1.lines otherwise.1.lines)
  layer (Stmt-F.DoWhile at body test) = plain _ (s.DoWhile at body.0 test.0) (do_while scope at (l.lines_of_stmt body.0 scope) (l.operand_of test.0)) (s.rolls-DoWhile at body.0 test.0) (equations.lines-DoWhile at body.0 test.0 scope) (equations.hoisted-DoWhile at body.0 test.0 scope)
      (well_formed_doing n scope at _ (l.operand_of test.0) body.1.lines (v.well_formed_value n scope fits test.0 0))
  layer (Stmt-F.While at test body) = plain _ (s.While at test.0 body.0) (while_of scope at (l.operand_of test.0) (l.lines_of_stmt body.0 scope)) (s.rolls-While at test.0 body.0) (equations.lines-While at test.0 body.0 scope) (equations.hoisted-While at test.0 body.0 scope)
      (a.well_formed_while n scope fits at _ _ (v.well_formed_value n scope fits test.0) body.1.lines)
  layer (Stmt-F.ForIn at goal object body) = plain _ (s.ForIn at goal.0 object.0 body.0) (for_in scope at (l.goal_lines goal.0 scope) (l.at_of object.0) (l.operand_of object.0) (l.lines_of_stmt body.0 scope)) (s.rolls-ForIn at goal.0 object.0 body.0) (equations.lines-ForIn at goal.0 object.0 body.0 scope) (equations.hoisted-ForIn at goal.0 object.0 body.0 scope)
      (a.well_formed_for_in n scope fits at _ _ (l.operand_of object.0) _ goal.1 (v.well_formed_value n scope fits object.0) body.1.lines)
  layer (Stmt-F.Continue at) = plain _ (s.Continue at) (leave scope at to.Continue) (s.rolls-Continue at) (equations.lines-Continue at scope) (equations.hoisted-Continue at scope)
      (a.well_formed_leave n scope fits at to.Continue tt)
  layer (Stmt-F.Break at) = plain _ (s.Break at) (leave scope at to.Break) (s.rolls-Break at) (equations.lines-Break at scope) (equations.hoisted-Break at scope)
      (a.well_formed_leave n scope fits at to.Break tt)
  layer (Stmt-F.Return at) = plain _ (s.Return at) (return_undefined scope at) (s.rolls-Return at) (equations.lines-Return at scope) (equations.hoisted-Return at scope)
      (a.well_formed_nothing_back n scope fits at)
  layer (Stmt-F.ReturnValue at value) = plain _ (s.ReturnValue at value.0) (return_value scope at (l.operand_of value.0)) (s.rolls-ReturnValue at value.0) (equations.lines-ReturnValue at value.0 scope) (equations.hoisted-ReturnValue at value.0 scope)
      (a.well_formed_value_back n scope fits at _ (v.well_formed_value n scope fits value.0))
  layer (Stmt-F.Throw at value) = plain _ (s.Throw at value.0) (throw_value scope at (l.operand_of value.0)) (s.rolls-Throw at value.0) (equations.lines-Throw at value.0 scope) (equations.hoisted-Throw at value.0 scope)
      (a.well_formed_thrown n scope fits at _ (v.well_formed_value n scope fits value.0))
  layer (Stmt-F.FunctionDeclaration f) = shown _ (s.FunctionDeclaration f.0) nothing (hoisted_function scope (forms.keyword_at f.0) f.0.name) (s.rolls-FunctionDeclaration f.0) (equations.lines-FunctionDeclaration f.0 scope) (equations.hoisted-FunctionDeclaration f.0 scope)
      (well_formed_nothing n scope) (a.well_formed_hoisted_function n scope fits _ f.0.name) (resolved_hoisted_function scope _ f.0.name)
  layer (Stmt-F.For at init None None body) = plain _ (s.For at init.0 None None body.0) (for_of scope at (l.init_lines init.0 scope) None None (l.lines_of_stmt body.0 scope)) (s.rolls-For at init.0 None None body.0) (equations.lines-For at init.0 None None body.0 scope) (equations.hoisted-For at init.0 None None body.0 scope)
      (a.well_formed_for n scope fits at _ None None _ init.1 tt tt body.1.lines)
  layer (Stmt-F.For at init None (Some y) body) = plain _ (s.For at init.0 None (Some y.0) body.0) (for_of scope at (l.init_lines init.0 scope) None (Some (l.operand_of y.0)) (l.lines_of_stmt body.0 scope)) (s.rolls-For at init.0 None (Some y.0) body.0) (equations.lines-For at init.0 None (Some y.0) body.0 scope) (equations.hoisted-For at init.0 None (Some y.0) body.0 scope)
      (a.well_formed_for n scope fits at _ None (Some (l.operand_of y.0)) _ init.1 tt (v.well_formed_value n scope fits y.0) body.1.lines)
  layer (Stmt-F.For at init (Some x) None body) = plain _ (s.For at init.0 (Some x.0) None body.0) (for_of scope at (l.init_lines init.0 scope) (Some (l.operand_of x.0)) None (l.lines_of_stmt body.0 scope)) (s.rolls-For at init.0 (Some x.0) None body.0) (equations.lines-For at init.0 (Some x.0) None body.0 scope) (equations.hoisted-For at init.0 (Some x.0) None body.0 scope)
      (a.well_formed_for n scope fits at _ (Some (l.operand_of x.0)) None _ init.1 (v.well_formed_value n scope fits x.0) tt body.1.lines)
  layer (Stmt-F.For at init (Some x) (Some y) body) = plain _ (s.For at init.0 (Some x.0) (Some y.0) body.0) (for_of scope at (l.init_lines init.0 scope) (Some (l.operand_of x.0)) (Some (l.operand_of y.0)) (l.lines_of_stmt body.0 scope)) (s.rolls-For at init.0 (Some x.0) (Some y.0) body.0) (equations.lines-For at init.0 (Some x.0) (Some y.0) body.0 scope) (equations.hoisted-For at init.0 (Some x.0) (Some y.0) body.0 scope)
      (a.well_formed_for n scope fits at _ (Some (l.operand_of x.0)) (Some (l.operand_of y.0)) _ init.1 (v.well_formed_value n scope fits x.0) (v.well_formed_value n scope fits y.0) body.1.lines)

  -- the start of a loop, with what is shown of its parts
  abbrev InitLayer : Type 0
  InitLayer = Init-F ((t : Expr) × Unit {0}) ShownGoal ShownInit ShownStmt ShownDeclaration ((t : Function) × Unit {0}) ((t : Property) × Unit {0})

  -- the start without what is shown of its parts
  abbrev bare_init : InitLayer → Init-F Expr Goal Init Stmt Declaration Function Property
  bare_init = map-Init ((t : Expr) × Unit {0}) ShownGoal ShownInit ShownStmt ShownDeclaration ((t : Function) × Unit {0}) ((t : Property) × Unit {0})
      Expr Goal Init Stmt Declaration Function Property (λ t. t.0) (λ t. t.0) (λ t. t.0) (λ t. t.0) (λ t. t.0) (λ t. t.0) (λ t. t.0)

  -- a loop's start whose lines are these
  shown_init : (t made : Init) (code : Lines) → t ≡ made → l.init_lines made scope ≡ code → WellFormedLines n scope code → WellFormedInit n scope t
  shown_init t made code is lines_is well_formed = subst (WellFormedInit n scope) (sym is) (subst (WellFormedLines n scope) (sym lines_is) well_formed)

  -- of each start
  init_layer : (y : InitLayer) → WellFormedInit n scope (roll-Init (bare_init y))
  init_layer Init-F.Absent = shown_init _ i.Absent nothing i.rolls-Absent (equations.init-Absent scope) (well_formed_nothing n scope)
  init_layer (Init-F.Declarations at ds) = shown_init _ (i.Declarations at (map (λ t. t.0) ds)) (declarations scope at (map l.declaration_part (map (λ t. t.0) ds))) (i.rolls-Declarations at (map (λ t. t.0) ds)) (equations.init-Declarations at (map (λ t. t.0) ds) scope)
      (a.well_formed_declarations n scope fits at _ (shown_declarations ds))
  init_layer (Init-F.Initial value) = shown_init _ (i.Initial value.0) (expression scope (l.operand_of value.0)) (i.rolls-Initial value.0) (equations.init-Initial value.0 scope)
      (a.well_formed_expression n scope fits _ (v.well_formed_value n scope fits value.0))

  -- a goal, with what is shown of its parts
  abbrev GoalLayer : Type 0
  GoalLayer = Goal-F ((t : Expr) × Unit {0}) ShownGoal ShownInit ShownStmt ShownDeclaration ((t : Function) × Unit {0}) ((t : Property) × Unit {0})

  -- the goal without what is shown of its parts
  abbrev bare_goal : GoalLayer → Goal-F Expr Goal Init Stmt Declaration Function Property
  bare_goal = map-Goal ((t : Expr) × Unit {0}) ShownGoal ShownInit ShownStmt ShownDeclaration ((t : Function) × Unit {0}) ((t : Property) × Unit {0})
      Expr Goal Init Stmt Declaration Function Property (λ t. t.0) (λ t. t.0) (λ t. t.0) (λ t. t.0) (λ t. t.0) (λ t. t.0) (λ t. t.0)

  -- a goal whose lines are these
  shown_goal : (t made : Goal) (code : Lines) → t ≡ made → l.goal_lines made scope ≡ code → WellFormedLines n scope code → WellFormedGoal n scope t
  shown_goal t made code is lines_is well_formed = subst (WellFormedGoal n scope) (sym is) (subst (WellFormedLines n scope) (sym lines_is) well_formed)

  -- of each goal
  goal_layer : (y : GoalLayer) → WellFormedGoal n scope (roll-Goal (bare_goal y))
  goal_layer (Goal-F.Variable at name_at name) = shown_goal _ (g.Variable at name_at name) (store_goal scope at name) (g.rolls-Variable at name_at name) (equations.goal-Variable at name_at name scope)
      (a.well_formed_put_goal n scope fits at name)
  goal_layer (Goal-F.Target value) = shown_goal _ (g.Target value.0) (goal_of scope (l.at_of value.0) (l.reference_of value.0)) (g.rolls-Target value.0) (equations.goal-Target value.0 scope)
      (a.well_formed_goal_of n scope fits _ _ (v.well_formed_root n scope fits value.0))

  -- of each statement
  pub well_formed_stmt : (t : Stmt) → WellFormedStmt n scope t
  well_formed_stmt = ind-Stmt (λ t. Unit {0}) (WellFormedGoal n scope) (WellFormedInit n scope) (WellFormedStmt n scope) (λ t. Unit {0}) (λ t. Unit {0}) (λ t. Unit {0})
      (λ x y is. tt)
      (λ x y is. subst (λ z. WellFormedGoal n scope (roll-Goal z)) is (goal_layer y))
      (λ x y is. subst (λ z. WellFormedInit n scope (roll-Init z)) is (init_layer y))
      (λ x y is. subst (λ z. WellFormedStmt n scope (roll-Stmt z)) is (layer y))
      (λ x y is. tt) (λ x y is. tt) (λ x y is. tt)

  -- the lines of a statement
  pub well_formed_acts : (t : Stmt) → WellFormedLines n scope (l.lines_of_stmt t scope)
  well_formed_acts t = (well_formed_stmt t).lines

  -- what stands at the start of the function for a statement
  pub well_formed_hoisted : (t : Stmt) → WellFormedLines n scope (l.hoisted_of t scope)
  well_formed_hoisted t = (well_formed_stmt t).hoisted

  -- those of each of these
  each_acts : (ts : List Stmt) → a.WellFormedEach n scope (l.lines_of_stmts ts)
  each_acts [] = tt
  each_acts (t ∷ ts) = (well_formed_acts t, each_acts ts)

  -- what stands at the start for each of these
  each_hoisted : (ts : List Stmt) → a.WellFormedEach n scope (l.hoisted_in ts)
  each_hoisted [] = tt
  each_hoisted (t ∷ ts) = (well_formed_hoisted t, each_hoisted ts)

  -- the statements of a body
  pub well_formed_body_lines : (ts : List Stmt) → WellFormedLines n scope (l.body_lines ts scope)
  well_formed_body_lines ts = a.well_formed_sequence n scope fits (l.lines_of_stmts ts) (each_acts ts)

  -- the functions that a body declares
  pub well_formed_hoisted_lines : (ts : List Stmt) → WellFormedLines n scope (l.hoisted_lines ts scope)
  well_formed_hoisted_lines ts = a.well_formed_sequence n scope fits (l.hoisted_in ts) (each_hoisted ts)

  -- no jump stands among them
  pub resolved_hoisted_lines : (ts : List Stmt) → ResolvedLines (l.hoisted_lines ts scope)
  resolved_hoisted_lines [] = resolved_nothing
  resolved_hoisted_lines (t ∷ ts) = resolved_then (l.hoisted_of t scope) (l.hoisted_lines ts scope) (well_formed_stmt t).hoisted_resolved (resolved_hoisted_lines ts)
