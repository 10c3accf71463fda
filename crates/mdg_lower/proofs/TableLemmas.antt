-- Functions and files are lowered, one after another.
use Rattle.std.proofs.Common.{◌≡◌, ℕ, ◌+◌, ◌<◌, ◌≤◌, List, [], ◌∷◌, ◌++◌, ◌-◌, length, get_or, take, drop, refl, sym, ap, ◌∙◌, arith}
use Rattle.std.specs.Prelude.{map}
use Rattle.std.specs.Borrow.{Bor}
use Rattle.std.proofs.Math.Seq.{drop-append_seam}
use Rattle.mdg_base.specs.declared.number.CellId.{CellId}
use Rattle.mdg_tree.specs.declared.tree.At.{At}
use Rattle.mdg_tree.specs.declared.tree.Function.{Function}
use Rattle.mdg_tree.specs.declared.tree.Stmt.{Stmt}
use Rattle.mdg_profile.specs.declared.entry.Entry.{Entry}
use Rattle.mdg_scope.specs.declared.bound.Bound.{Bound}
use Rattle.mdg_scope.specs.declared.bound.BoundFunction.{BoundFunction}
use Rattle.mdg_lower.specs.declared.draft.DraftLine.{DraftLine}
use Rattle.mdg_lower.specs.declared.tables.Tables.{Tables}
use Rattle.mdg_lower.specs.declared.scope.Scope.{Scope}
use Rattle.mdg_lower.specs.Builder.{Lines, Emits}
use Rattle.mdg_lower.specs.Environment.{entered}
use Rattle.mdg_lower.specs.Forms.{keyword_at}
use Rattle.mdg_lower.specs.Offsets.{add_offsets}
use Rattle.mdg_lower.specs.Nested.{functions_in, loops_in}
use Rattle.mdg_lower.specs.Tables.{PackageLowering, function_lines, file_lines, with_function, with_file, append_function, lower_function, lower_nested, lower_body, lower_bound, lower_file, lower_files, in_function, scope_after, begin_file}
use Rattle.mdg_lower.specs.TableUpdates.{lowering_of, Updates, SameFile}
use Rattle.mdg_lower.proofs.Drops.{drop_at, drop_past}

-- a function whose lines were emitted and whose row was added is lowered
added : (scope : Scope) (f : BoundFunction) (at : At) (code : Lines) (l0 l1 : List DraftLine) (r0 r1 : Tables) (site : ℕ) → site ≡ length l0 → Emits code l0 l1
    → r1 ≡ with_function scope f at site (drop site l1) r0 → lowering_of l1 r1 ≡ append_function scope f at code (lowering_of l0 r0)
unfolding Emits append_function
added scope f at code l0 l1 r0 r1 site s p r =
    let d : drop site l1 ≡ code (length l0) = ap (λ k. drop k l1) s ∙ ap (λ l. drop (length l0) l) p ∙ drop-append_seam l0 (code (length l0)) in
    let e : r1 ≡ with_function scope f at (length l0) (code (length l0)) r0 =
    r ∙ ap (λ k. with_function scope f at k (drop site l1) r0) s ∙ ap (λ l. with_function scope f at (length l0) l r0) d in
    ap (λ l. lowering_of l r1) p ∙ ap (λ r. lowering_of (l0 ++ code (length l0)) r) e

pub numbered_lowered : (scope inner : Scope) (number : ℕ) (f : BoundFunction) (t : Function) (l0 l1 : List DraftLine) (r0 r1 : Tables) (site : ℕ)
    → inner ≡ in_function scope number f t.body → site ≡ length l0 → Emits (function_lines inner f t) l0 l1
    → r1 ≡ with_function inner f (keyword_at t) site (drop site l1) r0 → Updates (lower_function scope number f t) l0 r0 l1 r1
unfolding Updates lower_function
numbered_lowered scope inner number f t l0 l1 r0 r1 site i s p r =
    added inner f (keyword_at t) (function_lines inner f t) l0 l1 r0 r1 site s p r
    ∙ ap (λ w. append_function w f (keyword_at t) (function_lines w f t) (lowering_of l0 r0)) i

pub body_lowered : (scope inner : Scope) (f : BoundFunction) (b : Bound) (l0 l1 : List DraftLine) (r0 r1 : Tables) (site : ℕ)
    → inner ≡ in_function scope 0 f b.tree.items → site ≡ length l0 → Emits (file_lines inner b.tree.at b.tree.items) l0 l1
    → r1 ≡ with_function inner f b.tree.at site (drop site l1) r0 → Updates (lower_body scope f b) l0 r0 l1 r1
unfolding Updates lower_body
body_lowered scope inner f b l0 l1 r0 r1 site i s p r =
    added inner f b.tree.at (file_lines inner b.tree.at b.tree.items) l0 l1 r0 r1 site s p r
    ∙ ap (λ w. append_function w f b.tree.at (file_lines w b.tree.at b.tree.items) (lowering_of l0 r0)) i

pub ruleset functions = (numbered_lowered, body_lowered)

-- a scope is one of its own file
pub same_file : (scope : Scope) → SameFile scope scope
unfolding SameFile
same_file scope number f loops = refl

-- a function that was entered is of the same file
pub entered_same : (scope inner other : Scope) (number : ℕ) (f : BoundFunction) (body : List Stmt) → SameFile scope other
    → inner ≡ in_function scope number f body → SameFile inner other
unfolding SameFile entered
entered_same scope inner other number f body same i n g loops = ap (λ w. entered n g loops w) i ∙ same n g loops

numbered_same : (one other : Scope) (number : ℕ) (f : BoundFunction) (t : Function) (lowering : PackageLowering) → SameFile one other
    → lower_function one number f t lowering ≡ lower_function other number f t lowering
unfolding SameFile lower_function
numbered_same one other number f t lowering same =
    ap (λ w. append_function w f (keyword_at t) (function_lines w f t) lowering) (same number f (add_offsets [] (loops_in t.body)))

functions_same : (one other : Scope) (number : ℕ) (fs : List BoundFunction) (ts : List Function) (lowering : PackageLowering) → SameFile one other
    → lower_nested one number fs ts lowering ≡ lower_nested other number fs ts lowering
unfolding lower_nested
functions_same one other number [] ts lowering same = refl
functions_same one other number (f ∷ fs) [] lowering same = refl
functions_same one other number (f ∷ fs) (t ∷ ts) lowering same =
    functions_same one other (number + 1) fs ts (lower_function one number f t lowering) same
    ∙ ap (λ w. lower_nested other (number + 1) fs ts w) (numbered_same one other number f t lowering same)

no_trees : (scope : Scope) (number : ℕ) (fs : List BoundFunction) (lowering : PackageLowering) → lower_nested scope number fs [] lowering ≡ lowering
unfolding lower_nested
no_trees scope number [] lowering = refl
no_trees scope number (f ∷ fs) lowering = refl

no_functions : (scope : Scope) (number : ℕ) (ts : List Function) (lowering : PackageLowering) → lower_nested scope number [] ts lowering ≡ lowering
unfolding lower_nested
no_functions scope number ts lowering = refl

-- one more function, and the rest
pub more_functions : (first scope : Scope) (fs : List BoundFunction) (ts : List (Bor Function)) (number index i : ℕ) (f : BoundFunction) (t : Bor Function) (l0 l1 : List DraftLine) (r0 r1 : Tables) (all : PackageLowering)
    → SameFile scope first → index < length fs → f ≡ get_or fs index f → i < length ts → t ≡ get_or ts i t
    → Updates (lower_function scope number f t.now) l0 r0 l1 r1
    → all ≡ lower_nested first number (drop index fs) (map (λ t. t.now) (drop i ts)) (lowering_of l0 r0)
    → all ≡ lower_nested first (number + 1) (drop (index + 1) fs) (map (λ t. t.now) (drop (i + 1) ts)) (lowering_of l1 r1)
unfolding Updates lower_nested
more_functions first scope fs ts number index i f t l0 l1 r0 r1 all same h fi k ti p e =
    e ∙ ap (λ l. lower_nested first number l (map (λ t. t.now) (drop i ts)) (lowering_of l0 r0)) (drop_at fs index f h ∙ ap (λ w. w ∷ drop (index + 1) fs) (sym fi))
    ∙ ap (λ l. lower_nested first number (f ∷ drop (index + 1) fs) (map (λ t. t.now) l) (lowering_of l0 r0)) (drop_at ts i t k ∙ ap (λ w. w ∷ drop (i + 1) ts) (sym ti))
    ∙ ap (λ w. lower_nested first (number + 1) (drop (index + 1) fs) (map (λ t. t.now) (drop (i + 1) ts)) w) (sym (numbered_same scope first number f t.now (lowering_of l0 r0) same) ∙ sym p)

-- there are no more functions
pub out_of_functions : (first : Scope) (fs : List BoundFunction) (ts : List (Bor Function)) (number index i : ℕ) (l0 l1 : List DraftLine) (r0 r1 : Tables) → length fs ≤ index
    → lower_nested first 1 fs (map (λ t. t.now) ts) (lowering_of l0 r0) ≡ lower_nested first number (drop index fs) (map (λ t. t.now) (drop i ts)) (lowering_of l1 r1)
    → Updates (lower_nested first 1 fs (map (λ t. t.now) ts)) l0 r0 l1 r1
unfolding Updates
out_of_functions first fs ts number index i l0 l1 r0 r1 h e =
    sym (e ∙ ap (λ l. lower_nested first number l (map (λ t. t.now) (drop i ts)) (lowering_of l1 r1)) (drop_past fs index h) ∙ no_functions first number (map (λ t. t.now) (drop i ts)) (lowering_of l1 r1))

-- there are no more trees
pub out_of_trees : (first : Scope) (fs : List BoundFunction) (ts : List (Bor Function)) (number index i : ℕ) (l0 l1 : List DraftLine) (r0 r1 : Tables) → length ts ≤ i
    → lower_nested first 1 fs (map (λ t. t.now) ts) (lowering_of l0 r0) ≡ lower_nested first number (drop index fs) (map (λ t. t.now) (drop i ts)) (lowering_of l1 r1)
    → Updates (lower_nested first 1 fs (map (λ t. t.now) ts)) l0 r0 l1 r1
unfolding Updates
out_of_trees first fs ts number index i l0 l1 r0 r1 h e =
    sym (e ∙ ap (λ l. lower_nested first number (drop index fs) (map (λ t. t.now) l) (lowering_of l1 r1)) (drop_past ts i h) ∙ no_trees first number (drop index fs) (lowering_of l1 r1))

-- the body of a file and its functions
pub bound_lowered : (scope inner : Scope) (b : Bound) (f : BoundFunction) (fs : List BoundFunction) (ts : List Function) (l0 l1 l2 : List DraftLine) (r0 r1 r2 : Tables)
    → Updates (lower_body scope f b) l0 r0 l1 r1 → inner ≡ in_function scope 0 f b.tree.items → ts ≡ functions_in b.tree.items
    → Updates (lower_nested inner 1 fs ts) l1 r1 l2 r2 → Updates (lower_bound scope b (f ∷ fs)) l0 r0 l2 r2
unfolding Updates
bound_lowered scope inner b f fs ts l0 l1 l2 r0 r1 r2 p i t q =
    q ∙ functions_same inner scope 1 fs ts (lowering_of l1 r1) (entered_same scope inner scope 0 f b.tree.items (same_file scope) i)
    ∙ ap (λ w. lower_nested scope 1 fs w (lowering_of l1 r1)) t ∙ ap (λ w. lower_nested scope 1 fs (functions_in b.tree.items) w) p

-- a file without functions
pub none_lowered : (scope : Scope) (b : Bound) (fs : List BoundFunction) (l0 : List DraftLine) (r0 : Tables) → length fs < 1 → Updates (lower_bound scope b fs) l0 r0 l0 r0
unfolding Updates
none_lowered scope b [] l0 r0 h = refl
none_lowered scope b (f ∷ fs) l0 r0 h = absurd (omega arith)

pub ruleset file = (bound_lowered)

take_length : {A : Type 0} (xs : List A) → take (length xs) xs ≡ xs
take_length [] = refl
take_length (x ∷ xs) = ap (λ l. x ∷ l) (take_length xs)

-- the first function and the others
pub first_and_rest : (fs : List BoundFunction) (f : BoundFunction) → 1 ≤ length fs → f ≡ get_or fs 0 f → f ∷ take (length fs - 1) (drop 1 fs) ≡ fs
first_and_rest [] f h e = absurd (omega arith)
first_and_rest (g ∷ fs) f h e =
    let n : length (g ∷ fs) - 1 ≡ length fs = omega arith in
    ap (λ k. f ∷ take k fs) n ∙ ap (λ l. f ∷ l) (take_length fs) ∙ ap (λ w. w ∷ fs) e

-- one more file
pub file_lowered : (modules : List CellId) (entries : List Entry) (b : Bound) (scope : Scope) (l0 l1 : List DraftLine) (r0 r1 r2 : Tables)
    → scope ≡ scope_after modules entries r0 b → r1 ≡ with_file scope b r0 → Updates (lower_bound scope b b.functions) l0 r1 l1 r2
    → Updates (lower_file modules entries b) l0 r0 l1 r2
unfolding Updates lower_file
file_lowered modules entries b scope l0 l1 r0 r1 r2 s r p =
    p ∙ ap (λ w. lower_bound scope b b.functions (lowering_of l0 w)) r
    ∙ ap (λ w. lower_bound w b b.functions (begin_file w b (lowering_of l0 r0))) s

pub ruleset files = (file_lowered)

pub more_files : (modules : List CellId) (entries : List Entry) (bs : List Bound) (i : ℕ) (b : Bound) (l0 l1 : List DraftLine) (r0 r1 : Tables) (all : PackageLowering)
    → i < length bs → b ≡ get_or bs i b → Updates (lower_file modules entries b) l0 r0 l1 r1
    → all ≡ lower_files modules entries (drop i bs) (lowering_of l0 r0) → all ≡ lower_files modules entries (drop (i + 1) bs) (lowering_of l1 r1)
unfolding Updates lower_files
more_files modules entries bs i b l0 l1 r0 r1 all h is p e =
    e ∙ ap (λ l. lower_files modules entries l (lowering_of l0 r0)) (drop_at bs i b h ∙ ap (λ w. w ∷ drop (i + 1) bs) (sym is))
    ∙ ap (λ w. lower_files modules entries (drop (i + 1) bs) w) (sym p)

pub ended_files : (modules : List CellId) (entries : List Entry) (bs : List Bound) (i : ℕ) (l0 l1 : List DraftLine) (r0 r1 : Tables) → length bs ≤ i
    → lower_files modules entries bs (lowering_of l0 r0) ≡ lower_files modules entries (drop i bs) (lowering_of l1 r1) → Updates (lower_files modules entries bs) l0 r0 l1 r1
unfolding Updates lower_files
ended_files modules entries bs i l0 l1 r0 r1 h e = sym (e ∙ ap (λ l. lower_files modules entries l (lowering_of l1 r1)) (drop_past bs i h))
