-- A run stays in its function until it calls or ends, and a call comes back into it.
use Rattle.std.proofs.Common.{◌≡◌, ◌≢◌, inl, inr, ℕ, zero, suc, ◌+◌, ◌<◌, ◌≤◌, true, false, List, [], ◌∷◌, length, get_or, Option, Some, None, slice_get, refl, sym, ◌∙◌, ap, subst, arith, true≢false, IsTrue, IfSome}
use Rattle.std.specs.Option.{option_map}
use Rattle.std.proofs.lemmas.Option.{none-some, same_Some, slice_get_cases}
use Rattle.std.proofs.lemmas.List.Elements.{All-get_or}
use Rattle.mdg_base.specs.declared.number.FunId.{FunId}
use Rattle.mdg_base.specs.declared.number.Site.{Site}
use Rattle.mdg_code.specs.declared.code.Code.{Code}
use Rattle.mdg_code.specs.declared.code.FunctionRow.{FunctionRow}
use Rattle.mdg_code.specs.declared.code.Line.{Line}
use Rattle.mdg_code.specs.declared.sites.Next.{Next}
use Rattle.mdg_code.specs.declared.statement.Statement.{Statement}
use Rattle.mdg_code.specs.declared.statement.Statement.TheVariants.{Branch, Call, Land, Return, Load, Throw}
use Rattle.mdg_code.specs.Kinds.{awaits_land, is_land, is_last}
use Rattle.mdg_code.specs.Lands.{HasLandAt, IsLanded}
use Rattle.mdg_code.specs.Order.{BranchesWithin, EndsAt, FollowOn, LiesIn}
use Rattle.mdg_code.specs.Places.{HasAt}
use Rattle.mdg_code.specs.Sites.{AreInOneFunction, function_at, line_at, statement_at}
use Rattle.mdg_code.specs.Successors.{ComesBackAt, StaysInFunction, land_of, next_at, next_of}
use Rattle.mdg_code.specs.Validity.{IsValid}
use Rattle.mdg_code.proofs.PlaceLemmas.{at_has}

-- the site is one of the function's
abbrev pub Spans : ℕ → FunctionRow → Type 0
Spans site row = (row.entry.0 ≤ site) × (site ≤ row.end.0)

-- the functions begin at or before the site of any of them
pub follow_from : (rows : List FunctionRow) (at count site i : ℕ) → FollowOn at rows count → HasAt (Spans site) rows i → at ≤ site
unfolding FollowOn
follow_from [] at count site i follow has = absurd (omega (arith, has.0))
follow_from (row ∷ rows) at count site zero follow has = let here : Spans site row = has.1 row in omega (arith, follow.0, here.0)
follow_from (row ∷ rows) at count site (suc i) follow has =
    let rest : row.end.0 + 1 ≤ site = follow_from rows (row.end.0 + 1) count site i follow.2 (omega (arith, has.0), λ d. has.1 d) in
    omega (arith, follow.0, follow.1, rest)

pub follow_le : (rows : List FunctionRow) (at count : ℕ) → FollowOn at rows count → at ≤ count
unfolding FollowOn
follow_le [] at count follow = omega (arith, follow)
follow_le (row ∷ rows) at count follow =
    let rest : row.end.0 + 1 ≤ count = follow_le rows (row.end.0 + 1) count follow.2 in omega (arith, follow.0, follow.1, rest)

-- and each of its sites is below the count
pub follow_within : (rows : List FunctionRow) (at count site i : ℕ) → FollowOn at rows count → HasAt (Spans site) rows i → site < count
unfolding FollowOn
follow_within [] at count site i follow has = absurd (omega (arith, has.0))
follow_within (row ∷ rows) at count site zero follow has =
    let here : Spans site row = has.1 row in
    let rest : row.end.0 + 1 ≤ count = follow_le rows (row.end.0 + 1) count follow.2 in omega (arith, here.1, rest)
follow_within (row ∷ rows) at count site (suc i) follow has =
    follow_within rows (row.end.0 + 1) count site i follow.2 (omega (arith, has.0), λ d. has.1 d)

-- a site is one of one function alone
pub lies_once : (rows : List FunctionRow) (at count site i j : ℕ) → FollowOn at rows count → HasAt (Spans site) rows i → HasAt (Spans site) rows j → i ≡ j
unfolding FollowOn
lies_once [] at count site i j follow one other = absurd (omega (arith, one.0))
lies_once (row ∷ rows) at count site zero zero follow one other = refl
lies_once (row ∷ rows) at count site zero (suc j) follow one other =
    let here : Spans site row = one.1 row in
    let rest : row.end.0 + 1 ≤ site = follow_from rows (row.end.0 + 1) count site j follow.2 (omega (arith, other.0), λ d. other.1 d) in
    absurd (omega (arith, here.1, rest))
lies_once (row ∷ rows) at count site (suc i) zero follow one other =
    let here : Spans site row = other.1 row in
    let rest : row.end.0 + 1 ≤ site = follow_from rows (row.end.0 + 1) count site i follow.2 (omega (arith, one.0), λ d. one.1 d) in
    absurd (omega (arith, here.1, rest))
lies_once (row ∷ rows) at count site (suc i) (suc j) follow one other =
    ap suc (lies_once rows (row.end.0 + 1) count site i j follow.2 (omega (arith, one.0), λ d. one.1 d) (omega (arith, other.0), λ d. other.1 d))

-- the line at a site of the function has the function's number
pub in_function : (code : Code) → IsValid code → (function : FunId) (site : ℕ) → LiesIn code.functions function site → function_at code site ≡ Some function
in_function code valid function site lies = elim (slice_get_cases code.lines site).1 [ inl there ↦ found there | inr past ↦ absurd (beyond past) ]
  where
    numbered : ℕ → FunId
    numbered n = record { 0 = n }

    found : (line : Line) × (site < length code.lines) × (slice_get code.lines site ≡ Some line) × (get_or code.lines site line ≡ line) → function_at code site ≡ Some function
    found (line, within, there, is) = ap (option_map (λ (l : Line). l.function)) there ∙ ap (λ (n : ℕ). Some (numbered n)) same
      where
        own : LiesIn code.functions line.function site
        own = subst (λ (l : Line). LiesIn code.functions l.function site) is (valid.lines_belong site line within)

        same : line.function.0 ≡ function.0
        same = lies_once code.functions 0 (length code.lines) site line.function.0 function.0 valid.functions_follow own lies

    beyond : (length code.lines ≤ site) × (slice_get code.lines site ≡ None) → ⊥
    beyond past = let inside : site < length code.lines = follow_within code.functions 0 (length code.lines) site function.0 valid.functions_follow lies in omega (arith, past.0, inside)

-- where the line ends no function, the next site is one of the same function
pub goes_on : (code : Code) → IsValid code → (site : ℕ) (line : Line) → site < length code.lines → get_or code.lines site line ≡ line
    → is_last line.statement ≡ false → LiesIn code.functions line.function (site + 1)
goes_on code valid site line within is last = (own.0, λ d. after d)
  where
    own : LiesIn code.functions line.function site
    own = subst (λ (l : Line). LiesIn code.functions l.function site) is (valid.lines_belong site line within)

    after : (d : FunctionRow) → Spans (site + 1) (get_or code.functions line.function.0 d)
    after d = (omega (arith, here.0), omega (arith, here.1, apart))
      where
        here : Spans site (get_or code.functions line.function.0 d)
        here = own.1 d

        ends : EndsAt code.lines (get_or code.functions line.function.0 d).end
        ends = All-get_or (λ row. EndsAt code.lines row.end) code.functions line.function.0 d own.0 valid.functions_end

        apart : site ≢ (get_or code.functions line.function.0 d).end.0
        apart same = true≢false (sym (at_has (λ (l : Line). IsTrue (is_last l.statement)) code.lines site line (sym is)
            (subst (λ (n : ℕ). HasAt (λ (l : Line). IsTrue (is_last l.statement)) code.lines n) (sym same) ends)) ∙ last)

-- the site's line
pub record LineAt (code : Code) (site : ℕ) (statement : Statement) : Type 0 where
  pub line : Line
  pub within : site < length code.lines
  pub is : get_or code.lines site line ≡ line
  pub there : line_at code site ≡ Some line
  pub states : line.statement ≡ statement

pub line_of : (code : Code) (site : ℕ) (statement : Statement) → statement_at code site ≡ Some statement → LineAt code site statement
line_of code site statement at = elim (slice_get_cases code.lines site).1 [ inl there ↦ found there | inr past ↦ absurd (beyond past) ]
  where
    found : (line : Line) × (site < length code.lines) × (slice_get code.lines site ≡ Some line) × (get_or code.lines site line ≡ line) → LineAt code site statement
    found (line, within, there, is) = record {
      line = line;
      within = within;
      is = is;
      there = there;
      states = same_Some line.statement statement (sym (ap (option_map (λ (l : Line). l.statement)) there) ∙ at);
    }

    beyond : (length code.lines ≤ site) × (slice_get code.lines site ≡ None) → ⊥
    beyond past = none-some statement (sym (ap (option_map (λ (l : Line). l.statement)) past.1) ∙ at)

one_function : (code : Code) → IsValid code → (site target : ℕ) (statement : Statement) → (at : LineAt code site statement)
    → LiesIn code.functions at.line.function target → AreInOneFunction code site target
one_function code valid site target statement at lies =
    (at.line.function, ap (option_map (λ (l : Line). l.function)) at.there, in_function code valid at.line.function target lies)

after : (code : Code) → IsValid code → (site : ℕ) (statement : Statement) → LineAt code site statement → is_last statement ≡ false → AreInOneFunction code site (site + 1)
after code valid site statement at last = one_function code valid site (site + 1) statement at
    (goes_on code valid site at.line at.within at.is (ap is_last at.states ∙ last))

-- a run goes on in its function
pub stays : (code : Code) → IsValid code → (site : Site) (statement : Statement) → LineAt code site.0 statement → StaysInFunction code site (next_of site statement)
stays code valid site (Branch left right) at =
    (one_function code valid site.0 left.0 (Branch left right) at within.0, one_function code valid site.0 right.0 (Branch left right) at within.1)
  where
    within : BranchesWithin code.functions at.line.function (Branch left right)
    within = subst (λ (st : Statement). BranchesWithin code.functions at.line.function st) at.states
        (subst (λ (l : Line). BranchesWithin code.functions l.function l.statement) at.is
        (All-get_or (λ (l : Line). BranchesWithin code.functions l.function l.statement) code.lines site.0 at.line at.within valid.branches_within))
stays code valid site (Return value) at = (tt, tt)
stays code valid site (Throw value) at = (tt, tt)
stays code valid site statement at = (after code valid site.0 statement at refl, tt)

is_land_only : (statement : Statement) → is_land statement ≡ true → statement ≡ Land
is_land_only Land is = refl
is_land_only statement is = absurd (true≢false (sym is))

land_there : (code : Code) (site : ℕ) → HasLandAt code.lines site → statement_at code site ≡ Some Land
land_there code site has = elim (slice_get_cases code.lines site).1 [ inl there ↦ found there | inr past ↦ absurd (omega (arith, has.0, past.0)) ]
  where
    found : (line : Line) × (site < length code.lines) × (slice_get code.lines site ≡ Some line) × (get_or code.lines site line ≡ line) → statement_at code site ≡ Some Land
    found (line, within, there, is) = ap (option_map (λ (l : Line). l.statement)) there
        ∙ ap (λ (st : Statement). Some st) (is_land_only line.statement (at_has (λ (l : Line). IsTrue (is_land l.statement)) code.lines site line (sym is) has))

landed : (code : Code) → IsValid code → (site : Site) (statement : Statement) → (at : LineAt code site.0 statement) → IsLanded code.lines site.0 at.line
landed code valid site statement at = subst (λ (l : Line). IsLanded code.lines site.0 l) at.is (valid.lands_there site.0 at.line at.within)

-- a call and a load come back to a land in their function
pub comes_back : (code : Code) → IsValid code → (site : Site) (statement : Statement) → LineAt code site.0 statement
    → IfSome (land_of site statement) (λ land. ComesBackAt code site land)
comes_back code valid site (Call into callee receiver arguments) at =
    (land_there code (site.0 + 1) (landed code valid site (Call into callee receiver arguments) at (ap awaits_land at.states)), after code valid site.0 (Call into callee receiver arguments) at refl)
comes_back code valid site (Load file) at = (land_there code (site.0 + 1) (landed code valid site (Load file) at (ap awaits_land at.states)), after code valid site.0 (Load file) at refl)
comes_back code valid site statement at = tt

next_same : (code : Code) (site : Site) (statement : Statement) (next : Next) → statement_at code site.0 ≡ Some statement → next_at code site ≡ Some next
    → next_of site statement ≡ next
next_same code site statement next at goes = same_Some (next_of site statement) next (sym (ap (option_map (next_of site)) at) ∙ goes)

pub runs_stay : (code : Code) → IsValid code → (site : Site) (next : Next) → next_at code site ≡ Some next → StaysInFunction code site next
runs_stay code valid site next goes = by (statement_at code site.0) refl
  where
    by : (o : Option Statement) → statement_at code site.0 ≡ o → StaysInFunction code site next
    by None at = absurd (none-some next (sym (ap (option_map (next_of site)) at) ∙ goes))
    by (Some statement) at = subst (λ (n : Next). StaysInFunction code site n) (next_same code site statement next at goes)
        (stays code valid site statement (line_of code site.0 statement at))

pub calls_come_back : (code : Code) → IsValid code → (site : Site) (statement : Statement) → statement_at code site.0 ≡ Some statement
    → IfSome (land_of site statement) (λ land. ComesBackAt code site land)
calls_come_back code valid site statement at = comes_back code valid site statement (line_of code site.0 statement at)
