-- Different facts have different bits.
use Rattle.std.proofs.Common.{◌≡◌, ℕ, zero, suc, ◌+◌, ◌*◌, ◌/◌, ◌%◌, ◌<◌, ◌≤◌, ◌⊎◌, refl, sym, ap, ◌∙◌, subst, inl, inr, ⊎_elim, arith, max, mul-le-mul_right}
use Rattle.std.proofs.Math.Nat.{div-add-mod'}
use Rattle.mdg_site.specs.Laid.{Laid}
use Rattle.mdg_site.specs.Nodes.{node_count}
use Rattle.mdg_site.specs.Rows.{row_count, width_of, word_count, word_index}
use Rattle.mdg_site.proofs.NumberLemmas.{grid_lt}
use Rattle.mdg_site.proofs.OneToOne.{grid_same}

pub node_word : (l : Laid) (n : ℕ) → n < node_count l → n / 64 < width_of l
node_word l n h = omega (arith, h)

pub bits_apart : (l : Laid) (r s n m : ℕ) → n < node_count l → m < node_count l → word_index l r n ≡ word_index l s m → n % 64 ≡ m % 64 → (r ≡ s) × (n ≡ m)
bits_apart l r s n m h k e f =
    let g = grid_same (width_of l) r s (n / 64) (m / 64) (node_word l n h) (node_word l m k) e in
    (g.0, let q = g.1 in omega (arith, q, f))

pub bit_within : (l : Laid) (r n : ℕ) → r < row_count l → n < node_count l → word_index l r n < word_count l
bit_within l r n h k = grid_lt (width_of l) (row_count l) r (n / 64) h (node_word l n k)
