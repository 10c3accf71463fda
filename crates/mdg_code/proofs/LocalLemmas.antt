-- The locals before a site: how the counts add up, and that they fit.
use Rattle.std.proofs.Common.{◌≡◌, inl, inr, ℕ, zero, suc, ◌+◌, ◌*◌, ◌^◌, ◌<◌, ◌≤◌, List, [], ◌∷◌, length, get_or, take, Option, Some, None, slice_get, refl, sym, ◌∙◌, ap, subst, arith}
use Rattle.std.specs.List.{sum_by}
use Rattle.std.specs.Option.{option_and_then, option_map}
use Rattle.std.proofs.lemmas.List.Sums.{sum_by-cons, sum_by_more, sum_by-take-le}
use Rattle.std.proofs.lemmas.Nat.{mul-le}
use Rattle.std.proofs.lemmas.Option.{none-some, same_Some, slice_get_cases}
use Rattle.mdg_code.specs.declared.code.Code.{Code}
use Rattle.mdg_code.specs.declared.code.FunctionRow.{FunctionRow}
use Rattle.mdg_code.specs.declared.code.Line.{Line}
use Rattle.mdg_code.specs.Laws.{AddUp}
use Rattle.mdg_code.specs.Locals.{locals_at, locals_before, locals_of, row_locals_before, sites_before}
use Rattle.mdg_code.specs.Order.{FollowOn, LiesIn}
use Rattle.mdg_code.specs.Places.{HasAt}
use Rattle.mdg_code.specs.Validity.{IsValid}
use Rattle.mdg_code.proofs.FunctionLemmas.{Spans, follow_from}

-- a function from the site on has no site before it
none_in : (site : ℕ) (row : FunctionRow) → site ≤ row.entry.0 → row_locals_before site row ≡ 0
none_in site row from = ap (λ (n : ℕ). n * row.locals) none ∙ omega arith
  where
    none : sites_before site row ≡ 0
    none = omega (arith, from)

-- functions from the site on have none
pub none_before : (site : ℕ) (rows : List FunctionRow) (at count : ℕ) → site ≤ at → FollowOn at rows count → sum_by (row_locals_before site) rows ≡ 0
unfolding FollowOn
none_before site [] at count from follow = refl
none_before site (row ∷ rows) at count from follow =
    let here : row_locals_before site row ≡ 0 = none_in site row (omega (arith, from, follow.0)) in
    let rest : sum_by (row_locals_before site) rows ≡ 0 =
    none_before site rows (row.end.0 + 1) count (omega (arith, from, follow.0, follow.1)) follow.2 in
    sum_by-cons (row_locals_before site) row rows ∙ omega (arith, here, rest)

-- the function of the site adds its locals
own_more : (site : ℕ) (row : FunctionRow) → Spans site row → row_locals_before (site + 1) row ≡ row_locals_before site row + row.locals
own_more site row spans = ap (λ (n : ℕ). n * row.locals) one ∙ grind arith
  where
    one : sites_before (site + 1) row ≡ sites_before site row + 1
    one = omega (arith, spans.0, spans.1)

-- a function that ended before the site adds none
other_same : (site : ℕ) (row : FunctionRow) → row.end.0 + 1 ≤ site → row_locals_before (site + 1) row ≡ row_locals_before site row
other_same site row ended = ap (λ (n : ℕ). n * row.locals) same
  where
    same : sites_before (site + 1) row ≡ sites_before site row
    same = omega (arith, ended)

-- the site that the i-th function has adds its locals to the sum
pub adds : (site : ℕ) (rows : List FunctionRow) (at count i : ℕ) (d : FunctionRow) → FollowOn at rows count → HasAt (Spans site) rows i
    → sum_by (row_locals_before (site + 1)) rows ≡ sum_by (row_locals_before site) rows + (get_or rows i d).locals
unfolding FollowOn
adds site [] at count i d follow has = absurd (omega (arith, has.0))
adds site (row ∷ rows) at count zero d follow has =
    sum_by-cons (row_locals_before (site + 1)) row rows ∙ omega (arith, own, now, before, sum_by-cons (row_locals_before site) row rows)
  where
    spans : Spans site row
    spans = has.1 row

    own : row_locals_before (site + 1) row ≡ row_locals_before site row + row.locals
    own = own_more site row spans

    now : sum_by (row_locals_before (site + 1)) rows ≡ 0
    now = none_before (site + 1) rows (row.end.0 + 1) count (omega (arith, spans.1)) follow.2

    before : sum_by (row_locals_before site) rows ≡ 0
    before = none_before site rows (row.end.0 + 1) count (omega (arith, spans.1)) follow.2
adds site (row ∷ rows) at count (suc i) d follow has =
    let lies : HasAt (Spans site) rows i = (omega (arith, has.0), λ e. has.1 e) in
    let same : row_locals_before (site + 1) row ≡ row_locals_before site row =
    other_same site row (follow_from rows (row.end.0 + 1) count site i follow.2 lies) in
    let rest : sum_by (row_locals_before (site + 1)) rows ≡ sum_by (row_locals_before site) rows + (get_or rows i d).locals =
    adds site rows (row.end.0 + 1) count i d follow.2 lies in
    sum_by-cons (row_locals_before (site + 1)) row rows ∙ omega (arith, same, rest, sum_by-cons (row_locals_before site) row rows)

-- the row of the site's function
record LocalsAt (code : Code) (site count : ℕ) : Type 0 where
  pub function : ℕ
  pub row : FunctionRow
  pub lies : HasAt (Spans site) code.functions function
  pub is : get_or code.functions function row ≡ row
  pub states : row.locals ≡ count

row_of : (code : Code) → IsValid code → (site count : ℕ) → locals_at code site ≡ Some count → LocalsAt code site count
row_of code valid site count at = elim (slice_get_cases code.lines site).1 [ inl there ↦ found there | inr past ↦ absurd (no_line past) ]
  where
    no_line : (length code.lines ≤ site) × (slice_get code.lines site ≡ None) → ⊥
    no_line past = none-some count (sym (ap (λ (o : Option Line). option_and_then (locals_of code) (option_map (λ (l : Line). l.function) o)) past.1) ∙ at)

    found : (line : Line) × (site < length code.lines) × (slice_get code.lines site ≡ Some line) × (get_or code.lines site line ≡ line) → LocalsAt code site count
    found (line, within, there, is) = elim (slice_get_cases code.functions line.function.0).1 [ inl row ↦ its row | inr past ↦ absurd (omega (arith, own.0, past.0)) ]
      where
        own : LiesIn code.functions line.function site
        own = subst (λ (l : Line). LiesIn code.functions l.function site) is (valid.lines_belong site line within)

        its : (row : FunctionRow) × (line.function.0 < length code.functions) × (slice_get code.functions line.function.0 ≡ Some row) × (get_or code.functions line.function.0 row ≡ row)
            → LocalsAt code site count
        its (row, inside, has, same) = record {
          function = line.function.0;
          row = row;
          lies = own;
          is = same;
          states = same_Some row.locals count (sym (ap (λ (o : Option Line). option_and_then (locals_of code) (option_map (λ (l : Line). l.function) o)) there
              ∙ ap (option_map (λ (r : FunctionRow). r.locals)) has) ∙ at);
        }

pub add_up : (code : Code) → IsValid code → AddUp code
add_up code valid = record { none = none_before 0 code.functions 0 (length code.lines) (omega arith) valid.functions_follow; more = more }
  where
    more : (site count : ℕ) → locals_at code site ≡ Some count → locals_before code (site + 1) ≡ locals_before code site + count
    more site count at = let own : LocalsAt code site count = row_of code valid site count at in
        adds site code.functions 0 (length code.lines) own.function own.row valid.functions_follow own.lies
        ∙ ap (λ (n : ℕ). locals_before code site + n) (ap (λ (r : FunctionRow). r.locals) own.is ∙ own.states)

-- the functions have no more sites before the site than there are
sites_within : (site : ℕ) (rows : List FunctionRow) (at count : ℕ) → FollowOn at rows count → sum_by (sites_before site) rows + at ≤ count
unfolding FollowOn
sites_within site [] at count follow = omega (arith, follow)
sites_within site (row ∷ rows) at count follow =
    let rest : sum_by (sites_before site) rows + (row.end.0 + 1) ≤ count = sites_within site rows (row.end.0 + 1) count follow.2 in
    omega (arith, sum_by-cons (sites_before site) row rows, rest, follow.0, follow.1)

-- so many sites of one more function, each with its locals: the sum stays small
pub small_more : (site : ℕ) (rows : List FunctionRow) (count i total : ℕ) (row : FunctionRow) → FollowOn 0 rows count → i < length rows
    → row ≡ get_or rows i row → row.locals < 4294967296 → total ≤ sum_by (sites_before site) (take i rows) * 4294967295
    → total + row_locals_before site row ≤ sum_by (sites_before site) (take (i + 1) rows) * 4294967295
small_more site rows count i total row follow within is locals small = omega (arith, more, each, small)
  where
    more : sum_by (sites_before site) (take (i + 1) rows) ≡ sum_by (sites_before site) (take i rows) + sites_before site row
    more = sum_by_more (sites_before site) rows i row within
        ∙ ap (λ (r : FunctionRow). sum_by (sites_before site) (take i rows) + sites_before site r) (sym is)

    each : row_locals_before site row ≤ sites_before site row * 4294967295
    each = mul-le (sites_before site row) row.locals (sites_before site row) 4294967295 (omega arith) (omega (arith, locals))

pub fits_more : (site : ℕ) (rows : List FunctionRow) (count i total : ℕ) → FollowOn 0 rows count → count < 4294967296
    → total ≤ sum_by (sites_before site) (take i rows) * 4294967295 → total < 2 ^ 64
fits_more site rows count i total follow short small =
    let part : sum_by (sites_before site) (take i rows) ≤ sum_by (sites_before site) rows = sum_by-take-le (sites_before site) rows i in
    let all : sum_by (sites_before site) rows + 0 ≤ count = sites_within site rows 0 count follow in
    omega (arith, part, all, short, small)

pub total_more : (site : ℕ) (rows : List FunctionRow) (i : ℕ) (row : FunctionRow) → i < length rows → row ≡ get_or rows i row
    → sum_by (row_locals_before site) (take (i + 1) rows) ≡ sum_by (row_locals_before site) (take i rows) + row_locals_before site row
total_more site rows i row within is = sum_by_more (row_locals_before site) rows i row within
    ∙ ap (λ (r : FunctionRow). sum_by (row_locals_before site) (take i rows) + row_locals_before site r) (sym is)
