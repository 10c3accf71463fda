use Rattle.std.proofs.Common.{rules, arith, ◌≡◌, ◌≤◌, ◌-◌, List, ℕ, length, drop, sym, ap, ◌∙◌, subst, refl, length-drop}
use Rattle.std.specs.Prelude.{Option, IfSome, Ok}
use Rattle.std.proofs.lemmas.Grind.{common_steps}
use Rattle.std.proofs.lemmas.List.{drop_all}
use Rattle.mdg_text.specs.declared.lexeme.Lexeme.{Lexeme}
use Rattle.mdg_text.specs.Scanner.{Found, after_script}
use Rattle.mdg_text.specs.Places.{found_at}
use Rattle.mdg_text.proofs.LexPlaceLemmas.{trivia_order, token_order, lex_begun, lex_done, lex_bad, lex_over, lex_turn}
use Rattle.mdg_text.proofs.lex.lex.Goals as goal

abbrev found : List ℕ → Lexeme → Found
found text f = record { kind = f.kind; value = f.value; rest = drop f.next text }

pub loop-alloc-init : goal.loop-alloc-init
loop-alloc-init c =
    let at : c.advance_to-cursor.result.at ≡ c.after_script.result = c.advance_to-cursor.ensures.at in
    let rest : after_script c.args.text.now ≡ drop c.advance_to-cursor.result.at c.args.text.now = c.after_script.ensures.rest ∙ ap (λ (i : ℕ). drop i c.args.text.now) (sym at) in
    let inside : c.advance_to-cursor.result.at ≤ length c.args.text.now = c.advance_to-cursor.ensures.is.inside in
    record {
      is = c.advance_to-cursor.ensures.is;
      many = omega (arith, ap length c.new-made.ensures.items);
      same = lex_begun c.args.limit c.advance_to-cursor.result.at c.args.text.now c.new-made.result.items c.new-made.ensures.items inside rest;
    }

pub advance_to-begin-requires-clause-order : goal.advance_to-begin-requires-clause-order
advance_to-begin-requires-clause-order c = trivia_order c.args.text.now c.loop-alloc.cursor.at c.skip_trivia.result c.loop-alloc.invariant.is.inside c.skip_trivia.ensures.bound c.skip_trivia.ensures.rest

pub returns-then-begin-text : goal.returns-then-begin-text
returns-then-begin-text c =
    let at : c.advance_to-begin.result.at ≡ c.skip_trivia.result = c.advance_to-begin.ensures.at in
    let e = c.loop-alloc.invariant.same ∙ lex_done _ _ _ _ _ _ (c.skip_trivia.ensures.rest ∙ drop_all c.skip_trivia.result c.args.text.now (omega arith)) in
    e ∙ ap Ok (sym c.from_vec.ensures)

pub returns-in_default : goal.returns-in_default
returns-in_default c =
    let at : c.advance_to-begin.result.at ≡ c.skip_trivia.result = c.advance_to-begin.ensures.at in
    let g = trivia_order c.args.text.now c.loop-alloc.cursor.at c.skip_trivia.result c.loop-alloc.invariant.is.inside c.skip_trivia.ensures.bound c.skip_trivia.ensures.rest in
    let inside : c.advance_to-begin.result.at ≤ length c.args.text.now = c.advance_to-begin.ensures.is.inside in
    c.loop-alloc.invariant.same
    ∙ lex_bad _ _ _ _ c.args.text.now c.loop-alloc.cursor.at c.advance_to-begin.result.at c.advance_to-begin.result.offset (omega arith) (omega arith)
    (c.skip_trivia.ensures.rest ∙ ap (λ (i : ℕ). drop i c.args.text.now) (sym at))
    (c.in_ok-lexeme.ensures.reads ∙ ap (found_at c.args.text.now) c.in_default.is)
    c.advance_to-begin.ensures.is.offset_is

pub returns-then-len-limit : goal.returns-then-len-limit
returns-then-len-limit c =
    let at : c.advance_to-begin.result.at ≡ c.skip_trivia.result = c.advance_to-begin.ensures.at in
    let inside : c.advance_to-begin.result.at ≤ length c.args.text.now = c.advance_to-begin.ensures.is.inside in
    let z : c.args.limit - length c.loop-alloc.made.items ≡ 0 = first_of (omega arith, search rules, grind (arith, common_steps)) in (
      c.loop-alloc.invariant.same
          ∙ lex_over _ _ _ _ _ _ (drop c.advance_to-begin.result.at c.args.text.now) (found c.args.text.now c.in-Some.lexeme) z
          (c.skip_trivia.ensures.rest ∙ ap (λ (i : ℕ). drop i c.args.text.now) (sym at))
          (omega (arith, length-drop c.advance_to-begin.result.at c.args.text.now))
          (c.in_ok-lexeme.ensures.reads ∙ ap (found_at c.args.text.now) c.in-Some.is),
      refl,
    )

pub advance_to-end-requires-clause-order : goal.advance_to-end-requires-clause-order
advance_to-end-requires-clause-order c =
    let b : c.in-Some.lexeme.next ≤ length c.args.text.now = subst (λ (o : Option Lexeme). IfSome o (λ x. x.next ≤ length c.args.text.now)) c.in-Some.is c.in_ok-lexeme.ensures.bound in
    let inside : c.advance_to-begin.result.at ≤ length c.args.text.now = c.advance_to-begin.ensures.is.inside in
    let o = token_order (length c.args.text.now) c.args.text.now c.advance_to-begin.result.at c.in-Some.lexeme.next (found c.args.text.now c.in-Some.lexeme) inside b (c.in_ok-lexeme.ensures.reads ∙ ap (found_at c.args.text.now) c.in-Some.is) refl in
    omega arith

pub has_line_end-requires-clause-order : goal.has_line_end-requires-clause-order
has_line_end-requires-clause-order c =
    let at : c.advance_to-begin.result.at ≡ c.skip_trivia.result = c.advance_to-begin.ensures.at in
    let g = trivia_order c.args.text.now c.loop-alloc.cursor.at c.skip_trivia.result c.loop-alloc.invariant.is.inside c.skip_trivia.ensures.bound c.skip_trivia.ensures.rest in
    omega arith

pub loop-alloc-smaller : goal.loop-alloc-smaller
loop-alloc-smaller c =
    let b : c.in-Some.lexeme.next ≤ length c.args.text.now = subst (λ (o : Option Lexeme). IfSome o (λ x. x.next ≤ length c.args.text.now)) c.in-Some.is c.in_ok-lexeme.ensures.bound in
    let inside : c.advance_to-begin.result.at ≤ length c.args.text.now = c.advance_to-begin.ensures.is.inside in
    let at : c.advance_to-begin.result.at ≡ c.skip_trivia.result = c.advance_to-begin.ensures.at in
    let ends : c.advance_to-end.result.at ≡ c.in-Some.lexeme.next = c.advance_to-end.ensures.at in
    let o = token_order (length c.args.text.now) c.args.text.now c.advance_to-begin.result.at c.in-Some.lexeme.next (found c.args.text.now c.in-Some.lexeme) inside b (c.in_ok-lexeme.ensures.reads ∙ ap (found_at c.args.text.now) c.in-Some.is) refl in
    let g = trivia_order c.args.text.now c.loop-alloc.cursor.at c.skip_trivia.result c.loop-alloc.invariant.is.inside c.skip_trivia.ensures.bound c.skip_trivia.ensures.rest in
    omega arith

pub loop-alloc-preserved : goal.loop-alloc-preserved
loop-alloc-preserved c =
    let b : c.in-Some.lexeme.next ≤ length c.args.text.now = subst (λ (o : Option Lexeme). IfSome o (λ x. x.next ≤ length c.args.text.now)) c.in-Some.is c.in_ok-lexeme.ensures.bound in
    let inside : c.advance_to-begin.result.at ≤ length c.args.text.now = c.advance_to-begin.ensures.is.inside in
    let at : c.advance_to-begin.result.at ≡ c.skip_trivia.result = c.advance_to-begin.ensures.at in
    let ends : c.advance_to-end.result.at ≡ c.in-Some.lexeme.next = c.advance_to-end.ensures.at in
    let t = c.in_ok-lexeme.ensures.reads ∙ ap (found_at c.args.text.now) c.in-Some.is in
    let o = token_order (length c.args.text.now) c.args.text.now c.advance_to-begin.result.at c.in-Some.lexeme.next (found c.args.text.now c.in-Some.lexeme) inside b t refl in
    let g = trivia_order c.args.text.now c.loop-alloc.cursor.at c.skip_trivia.result c.loop-alloc.invariant.is.inside c.skip_trivia.ensures.bound c.skip_trivia.ensures.rest in
    record {
      is = c.advance_to-end.ensures.is;
      many = first_of (omega arith, search rules, grind (arith, common_steps));
      same = lex_turn c.args.limit (length c.args.text.now) (length c.loop-alloc.made.items) (length c.push.new.self.items) _ c.loop-alloc.made.items c.push.new.self.items c.loop-alloc.has_token _
          c.args.text.now c.loop-alloc.cursor.at c.advance_to-begin.result.at c.advance_to-end.result.at (found c.args.text.now c.in-Some.lexeme)
          (first_of (omega arith, search rules, grind (arith, common_steps)))
          (first_of (search rules, grind (arith, common_steps)))
          c.loop-alloc.invariant.same (omega arith) (omega arith) c.advance_to-end.ensures.is.inside
          (c.skip_trivia.ensures.rest ∙ ap (λ (i : ℕ). drop i c.args.text.now) (sym at)) t (ap (λ (i : ℕ). drop i c.args.text.now) (sym ends))
          (record { kind = refl; value = refl; from = c.advance_to-begin.ensures.is.offset_is; to = c.advance_to-end.ensures.is.offset_is; line = c.advance_to-begin.ensures.is.line_is; line_before = c.has_line_end.ensures })
          c.in_ok-push.ensures.items;
    }
