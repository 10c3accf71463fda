-- Names and punctuators: what is read of one, and that no longer one is there.
use Rattle.std.proofs.Common.{◌≡◌, ℕ, zero, suc, ◌≤◌, ◌<◌, true, ◌&&◌, inl, inr, List, [], ◌∷◌, ◌++◌, length, take, drop, arith, refl, sym, ap, subst, length-append, length-drop, Contains}
use Rattle.std.specs.Prelude.{Some, nat_le}
use Rattle.std.specs.Str.{encode_utf8_all}
use Rattle.std.proofs.lemmas.List.{take_at, take-append-drop}
use Rattle.std.proofs.lemmas.Bool.{leb-true, leb-false, le-leb}
use Rattle.mdg_text.specs.declared.token.TokenKind.TheVariants as variant
use Rattle.mdg_text.specs.Characters.{is_start, is_part}
use Rattle.mdg_text.specs.Punctuator.{punctuators}
use Rattle.mdg_text.specs.Lexeme.{IsIdentifier}
use Rattle.mdg_text.specs.Scanner.{skip, before, is_in, Found, found_name, found_punctuator, kind_of, name_at, punctuator_of}
use Rattle.mdg_base.proofs.Decisions.{some_is, chosen, guard_of, both_true, decided, contradict}
use Rattle.mdg_text.proofs.ScannerLemmas.{skipped, skip_most, before_is, is_in-true, is_in-contains}

-- a prefix that is cut off and passes
pub record Cut (P : List ℕ → Type 0) (text rest : List ℕ) : Type 0 where
  pub prefix : List ℕ
  pub cut : text ≡ prefix ++ rest
  pub is : P prefix

-- names
pub name_sound : (text : List ℕ) (f : Found) → name_at text ≡ Some f
    → Cut IsIdentifier text f.rest × (f.value ≡ encode_utf8_all (before text f.rest)) × (f.kind ≡ kind_of (encode_utf8_all (before text f.rest)))
unfolding name_at
name_sound [] f e = absurd cc
name_sound (c ∷ cs) f e = let g = guard_of (is_start c) (Some (found_name (c ∷ cs) (skip is_part cs))) f e in let s = skipped is_part cs in
    subst (λ (x : Found). Cut IsIdentifier (c ∷ cs) x.rest × (x.value ≡ encode_utf8_all (before (c ∷ cs) x.rest)) × (x.kind ≡ kind_of (encode_utf8_all (before (c ∷ cs) x.rest)))) (some_is _ _ g.1)
    (record { prefix = c ∷ s.prefix; cut = ap (λ (l : List ℕ). c ∷ l) s.cut; is = (g.0, s.each) }, refl, refl)

-- an identifier at the start is no longer than the one that is read
pub name_most : (prefix rest : List ℕ) → IsIdentifier prefix → (f : Found) × (name_at (prefix ++ rest) ≡ Some f) × (length f.rest ≤ length rest)
unfolding name_at
name_most [] rest i = absurd i
name_most (c ∷ cs) rest i = (found_name (c ∷ (cs ++ rest)) (skip is_part (cs ++ rest)), rw i.0 refl, skip_most is_part cs rest i.1)

-- punctuators
pub punctuator_sound : (n : ℕ) (text : List ℕ) (f : Found) → punctuator_of n text ≡ Some f
    → Cut (Contains punctuators) text f.rest × (f.value ≡ encode_utf8_all (before text f.rest)) × (f.kind ≡ variant.Mark)
unfolding punctuator_of
punctuator_sound zero text f e = absurd cc
punctuator_sound (suc n) text f e = elim (chosen (nat_le (suc n) (length text) && is_in punctuators (take (suc n) text)) (Some (found_punctuator (suc n) text)) (punctuator_of n text) (Some f) e) [
  | inl h ↦ (let b = both_true (nat_le (suc n) (length text)) (is_in punctuators (take (suc n) text)) h.0 in
      let cut : text ≡ take (suc n) text ++ drop (suc n) text = sym (take-append-drop (suc n) text) in
      subst (λ (x : Found). Cut (Contains punctuators) text x.rest × (x.value ≡ encode_utf8_all (before text x.rest)) × (x.kind ≡ variant.Mark)) (some_is (found_punctuator (suc n) text) f h.1)
      (record { prefix = take (suc n) text; cut = cut; is = is_in-true punctuators (take (suc n) text) b.1 }, ap encode_utf8_all (sym (before_is text (take (suc n) text) (drop (suc n) text) cut)), refl))
  | inr h ↦ punctuator_sound n text f h.1
]

punctuator_here : (n : ℕ) (prefix rest : List ℕ) → Contains punctuators prefix → length prefix ≡ suc n → (nat_le (suc n) (length (prefix ++ rest)) && is_in punctuators (take (suc n) (prefix ++ rest))) ≡ true
punctuator_here n prefix rest i e = rw (take_at prefix rest (suc n) e, le-leb (suc n) (length (prefix ++ rest)) (omega (arith, length-append prefix rest)), is_in-contains punctuators prefix i) refl

pub punctuator_goes : (n : ℕ) (prefix rest : List ℕ) → Contains punctuators prefix → 0 < length prefix → length prefix ≤ n → (f : Found) × (punctuator_of n (prefix ++ rest) ≡ Some f) × (length f.rest ≤ length rest)
unfolding punctuator_of
punctuator_goes zero prefix rest i z h = absurd (omega arith)
punctuator_goes (suc n) prefix rest i z h = elim (decided (nat_le (suc n) (length (prefix ++ rest)) && is_in punctuators (take (suc n) (prefix ++ rest)))) [
  | inl on ↦ (found_punctuator (suc n) (prefix ++ rest), rw on refl, omega (arith, length-drop (suc n) (prefix ++ rest), length-append prefix rest))
  | inr off ↦ rw off (elim (decided (nat_le (length prefix) n)) [
    | inl le ↦ (let l = leb-true (length prefix) n le in punctuator_goes n prefix rest i z l)
    | inr gt ↦ (let g = leb-false (length prefix) n gt in absurd (contradict (punctuator_here n prefix rest i (omega arith)) off))
  ])
]
