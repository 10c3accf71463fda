-- The name that has a number, by the tables.
use Rattle.std.proofs.Common.{◌≡◌, ℕ, zero, suc, ◌+◌, ◌-◌, ◌<◌, ◌≤◌, ◌^◌, Bool, true, false, List, length, get_or, Option, refl, sym, ◌∙◌, ap, subst, ⊎_elim, arith, ◌⊎◌, inl, inr}
use Rattle.std.specs.declared.option.Option.TheVariants.{Some, None}
use Rattle.std.specs.Prelude.{slice_index}
use Rattle.mdg_base.specs.declared.node_name.NodeName.{NodeName}
use Rattle.mdg_base.specs.declared.node_name.NodeName.TheVariants.{Src, Shared, Site as AtSite, Ext, Caller}
use Rattle.mdg_base.specs.declared.number.Site.{Site}
use Rattle.mdg_site.specs.Blocks.{sum_below, slot, slot_at, shift, below}
use Rattle.mdg_site.specs.Shapes.{first_of, second_of, pair_size}
use Rattle.mdg_site.specs.Tables.{HasNumber, IsTable, pair_name}
use Rattle.mdg_site.proofs.BlockLemmas.{slot_some, slot_there, sum_more}
use Rattle.mdg_site.proofs.TakenLemmas.{some_is, shift_there, slot_within}

-- a number below the end is in one of the blocks
pub has_number : (f : ℕ → ℕ) (n x : ℕ) (xs : List ℕ) → IsTable f n xs → x < sum_below f n → HasNumber xs x
has_number f zero x xs t h = absurd (omega (arith, h))
has_number f (suc n) x xs t h =
    let last = t.sums (length xs - 1) (let s = t.sized in omega arith) in
    let first = t.sums 0 (omega arith) in
    let e : length xs - 1 ≡ suc n = (let s = t.sized in omega arith) in
    record {
      several = let s = t.sized in omega arith;
      begun = omega (arith, first);
      not_ended = let q = last ∙ ap (sum_below f) e in omega (arith, q, h);
    }

-- the place behind the begin of a block
pub place_there : (f : ℕ → ℕ) (n i x : ℕ) (xs : List ℕ) → IsTable f n xs → i + 1 < length xs → slice_index xs i ≤ x → x < slice_index xs (i + 1) → slot f i (x - slice_index xs i) ≡ Some x
place_there f n i x xs t h k m =
    let s = t.sized in
    let a = t.sums i (omega arith) in
    let b = t.sums (i + 1) (omega arith) in
    let c = sum_more f i in
    slot_there f i (x - slice_index xs i) (omega (arith, a, b, c, k, m)) ∙ some_is _ x (omega (arith, a, k))

pair_more : (s : Site) (y : ℕ) → pair_name true s (suc y) ≡ Ext s
pair_more s y = grind arith

-- of a pair, the one with this number
pub pair_named : (a b : Bool) (s : Site) (y : ℕ) → y < pair_size a b → ((pair_name a s y ≡ AtSite s) × (first_of a ≡ Some y)) ⊎ ((pair_name a s y ≡ Ext s) × (second_of a b ≡ Some y))
pair_named true b s zero h = inl (refl, refl)
pair_named true true s (suc y) h = inr (pair_more s y, some_is 1 (suc y) (omega (arith, h)))
pair_named true false s (suc y) h = absurd (omega (arith, h))
pair_named false true s y h = inr (refl, some_is 0 y (omega (arith, h)))
pair_named false false s y h = absurd (omega (arith, h))

module _ (f : ℕ → ℕ) (a b : Bool) (s : Site) (number : NodeName → Option ℕ) (early : ℕ) (size : f s.0 ≡ pair_size a b)
    (own : number (AtSite s) ≡ shift early (slot_at f s.0 (first_of a)))
    (ext : number (Ext s) ≡ shift early (slot_at f s.0 (second_of a b))) where
  pub pair_is : (y x : ℕ) (name : NodeName) → name ≡ pair_name a s y → slot f s.0 y ≡ Some x → number name ≡ Some (early + x)
  pair_is y x name is e = ap number is ∙ ⊎_elim
      (λ q. ap number q.0 ∙ own ∙ ap (shift early) (ap (slot_at f s.0) q.1 ∙ e))
      (λ q. ap number q.0 ∙ ext ∙ ap (shift early) (ap (slot_at f s.0) q.1 ∙ e))
      (pair_named a b s y (subst (λ (z : ℕ). y < z) size (slot_within f s.0 y x e)))
