-- The numbers of linked drafts are in range where the frame is large enough for their locals.
use Rattle.std.proofs.Common.{◌≡◌, ℕ, max, ◌<◌, ◌≤◌, List, [], ◌∷◌, length, IfSome, Option, Some, None, arith, le_trans}
use Rattle.std.proofs.Math.Nat.{le-max_left, le-max_right}
use Rattle.std.proofs.lemmas.List.Elements.{All-nil, All-cons}
use Rattle.mdg_base.specs.declared.number.Local.{Local}
use Rattle.mdg_code.specs.declared.code.Code.{Code}
use Rattle.mdg_code.specs.declared.code.SharedRow.{SharedRow}
use Rattle.mdg_code.specs.declared.statement.Statement.{Statement}
use Rattle.mdg_code.specs.declared.statement.Statement.TheVariants as s
use Rattle.mdg_code.specs.Ranges.{LocalsBelow, IsInRange}
use Rattle.mdg_lower.specs.declared.draft.Draft.{Draft}
use Rattle.mdg_lower.specs.declared.draft.Draft.TheVariants as d
use Rattle.mdg_lower.specs.FrameSize.{size_for, size_for_all, size_for_receiver, size_for_statement, size_for_draft}
use Rattle.mdg_lower.specs.Link.{linked_statement}
use Rattle.mdg_lower.specs.WellFormed.{Counts, IsRanged, IsRangedDraft}
use Rattle.mdg_lower.proofs.LinkedShared.{IsSharedThere}

-- both fit where the greater does
left_fits : (a b locals : ℕ) → max a b ≤ locals → a ≤ locals
left_fits a b locals fits = le_trans (le-max_left a b) fits

-- and so does the other
right_fits : (a b locals : ℕ) → max a b ≤ locals → b ≤ locals
right_fits a b locals fits = le_trans (le-max_right a b) fits

-- there is room for a local where its number is below the room
local_fits : (local : Local) (locals : ℕ) → size_for local ≤ locals → local.0 < locals
local_fits local locals fits = omega (arith, fits)

-- where there is room for locals there is what they have at least
least_fits : (least locals : ℕ) (xs : List Local) → size_for_all least xs ≤ locals → least ≤ locals
least_fits least locals [] fits = fits
least_fits least locals (x ∷ xs) fits = left_fits least (size_for x) locals (least_fits (max least (size_for x)) locals xs fits)

-- and room for each of them
all_fit : (least locals : ℕ) (xs : List Local) → size_for_all least xs ≤ locals → LocalsBelow locals xs
all_fit least locals [] fits = All-nil (λ (local : Local). local.0 < locals)
all_fit least locals (x ∷ xs) fits = All-cons (λ (local : Local). local.0 < locals) x xs
    (local_fits x locals (right_fits least (size_for x) locals (least_fits (max least (size_for x)) locals xs fits)))
    (all_fit (max least (size_for x)) locals xs fits)

-- there is room for the receiver, if any
receiver_fits : (locals : ℕ) (o : Option Local) → size_for_receiver o ≤ locals → IfSome o (λ local. local.0 < locals)
receiver_fits locals None fits = tt
receiver_fits locals (Some local) fits = local_fits local locals fits

-- there is room for both
two_fit : (a b : Local) (locals : ℕ) → max (size_for a) (size_for b) ≤ locals → (a.0 < locals) × (b.0 < locals)
two_fit a b locals fits = (local_fits a locals (left_fits (size_for a) (size_for b) locals fits), local_fits b locals (right_fits (size_for a) (size_for b) locals fits))

-- there is room for all three
three_fit : (a b c : Local) (locals : ℕ) → max (size_for a) (max (size_for b) (size_for c)) ≤ locals → (a.0 < locals) × (b.0 < locals) × (c.0 < locals)
three_fit a b c locals fits =
    let rest : (b.0 < locals) × (c.0 < locals) = two_fit b c locals (right_fits (size_for a) (max (size_for b) (size_for c)) locals fits) in
    (local_fits a locals (left_fits (size_for a) (max (size_for b) (size_for c)) locals fits), rest.0, rest.1)

-- there is room for the locals of a call, but for its arguments
call_fits : (into callee : Local) (receiver : Option Local) (locals : ℕ) → max (size_for into) (max (size_for callee) (size_for_receiver receiver)) ≤ locals
    → (into.0 < locals) × (callee.0 < locals) × IfSome receiver (λ local. local.0 < locals)
call_fits into callee receiver locals fits =
    let rest : max (size_for callee) (size_for_receiver receiver) ≤ locals = right_fits (size_for into) (max (size_for callee) (size_for_receiver receiver)) locals fits in (
      local_fits into locals (left_fits (size_for into) (max (size_for callee) (size_for_receiver receiver)) locals fits),
      local_fits callee locals (left_fits (size_for callee) (size_for_receiver receiver) locals rest),
      receiver_fits locals receiver (right_fits (size_for callee) (size_for_receiver receiver) locals rest),
    )

-- the code has so many functions, cells and files
pub record HasCounts (n : Counts) (code : Code) : Type 0 where
  pub functions : length code.functions ≡ n.functions
  pub cells : length code.cells ≡ n.cells
  pub files : length code.files ≡ n.files

module _ (n : Counts) (code : Code) (has : HasCounts n code) (locals : ℕ) where
  -- a complete statement is in range
  complete_in_range : (statement : Statement) → IsRanged n statement → size_for_statement statement ≤ locals → IsInRange code locals statement
  unfolding IsInRange
  complete_in_range (s.Literal into text) ranged fits = local_fits into locals fits
  complete_in_range (s.Copy into of) ranged fits = two_fit into of locals fits
  complete_in_range (s.Op into of) ranged fits = (local_fits into locals (least_fits (size_for into) locals of fits), all_fit (size_for into) locals of fits)
  complete_in_range (s.Object into) ranged fits = local_fits into locals fits
  complete_in_range (s.Function into function) ranged fits = (local_fits into locals fits, omega (arith, ranged, has.functions))
  complete_in_range (s.Own into) ranged fits = local_fits into locals fits
  complete_in_range (s.Shared into shared) ranged fits = absurd ranged
  complete_in_range (s.Get into of name column) ranged fits = absurd ranged
  complete_in_range (s.GetAt into of key) ranged fits = three_fit into of key locals fits
  complete_in_range (s.Set of name column value) ranged fits = absurd ranged
  complete_in_range (s.SetAt of key value) ranged fits = three_fit of key value locals fits
  complete_in_range (s.Cell into cell) ranged fits = (local_fits into locals fits, omega (arith, ranged, has.cells))
  complete_in_range (s.SetCell cell value) ranged fits = (omega (arith, ranged, has.cells), local_fits value locals fits)
  complete_in_range (s.Branch left right) ranged fits = tt
  complete_in_range (s.Call into callee receiver arguments) ranged fits =
      let least : ℕ = max (size_for into) (max (size_for callee) (size_for_receiver receiver)) in
      let some : (into.0 < locals) × (callee.0 < locals) × IfSome receiver (λ local. local.0 < locals) = call_fits into callee receiver locals (least_fits least locals arguments fits) in
      (some.0, some.1, some.2, all_fit least locals arguments fits)
  complete_in_range s.Land ranged fits = tt
  complete_in_range (s.Return value) ranged fits = local_fits value locals fits
  complete_in_range (s.Load file) ranged fits = omega (arith, ranged, has.files)
  complete_in_range (s.Throw value) ranged fits = local_fits value locals fits

  -- the statement that a draft becomes is in range
  pub draft_in_range : (columns : List (List ℕ)) (shared : List SharedRow) (draft : Draft) → IsRangedDraft n draft
      → IsSharedThere (length code.shared) (linked_statement columns shared draft) → size_for_draft draft ≤ locals
      → IsInRange code locals (linked_statement columns shared draft)
  unfolding IsInRange
  draft_in_range columns shared (d.Complete statement) ranged there fits = complete_in_range statement ranged fits
  draft_in_range columns shared (d.Get into of name) ranged there fits = two_fit into of locals fits
  draft_in_range columns shared (d.Set of name value) ranged there fits = two_fit of value locals fits
  draft_in_range columns shared (d.Shared into home name) ranged there fits = (local_fits into locals fits, there)
  draft_in_range columns shared (d.Branch left right) ranged there fits = tt
