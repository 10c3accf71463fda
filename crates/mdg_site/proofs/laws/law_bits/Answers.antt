use Rattle.mdg_site.proofs.BitLemmas.{bit_within, bits_apart}
use Rattle.mdg_site.proofs.laws.law_bits.Goals as goal

pub returns : goal.returns
returns c l = record { within = bit_within l; apart = bits_apart l }
