-- How a text is cut at its slashes, and how a path follows one segment more.
use Rattle.std.proofs.Common.{◌≡◌, ℕ, suc, ◌+◌, ◌<◌, Bool, true, false, cond, ◌&&◌, not, eqb, List, [], ◌∷◌, length, take, drop, refl, sym, ◌∙◌, ap, arith, length-drop, Bor}
use Rattle.std.specs.Prelude.{Option, Some, None}
use Rattle.std.proofs.lemmas.Str.Pattern.{IsSplitOnceResult, split_once_first}
use Rattle.std.specs.List.{position_or_len, before_first, after_first}
use Rattle.mdg_base.specs.Segments.{segments, onto_first, followed, stays, entered, is_up, is_root}

abbrev is_slash : ℕ → Bool
is_slash b = eqb b 47

pub whole_by : (b : Bool) (c : ℕ) (cs : List ℕ) → is_slash c ≡ b → segments (c ∷ cs) ≡ cond b ([] ∷ segments cs) (onto_first c (segments cs))
unfolding segments
whole_by b c cs is = ap (λ t. cond t ([] ∷ segments cs) (onto_first c (segments cs))) is

place_by : (b : Bool) (c : ℕ) (cs : List ℕ) → is_slash c ≡ b → position_or_len is_slash (c ∷ cs) ≡ cond (not b) (suc (position_or_len is_slash cs)) 0
place_by true c cs is = ap (λ t. cond (not t) (1 + position_or_len is_slash cs) 0) is
place_by false c cs is = let more : 1 + position_or_len is_slash cs ≡ suc (position_or_len is_slash cs) = omega arith in ap (λ t. cond (not t) (1 + position_or_len is_slash cs) 0) is ∙ more

one_by : (b : Bool) (c : ℕ) (cs : List ℕ) → (position_or_len is_slash cs ≡ length cs → segments cs ≡ cs ∷ []) → is_slash c ≡ b → position_or_len is_slash (c ∷ cs) ≡ length (c ∷ cs) → segments (c ∷ cs) ≡ (c ∷ cs) ∷ []
one_by true c cs rest is none = let no = sym (place_by true c cs is) ∙ none in absurd (omega arith)
one_by false c cs rest is none = let at = sym (place_by false c cs is) ∙ none in whole_by false c cs is ∙ ap (onto_first c) (rest (omega arith))

pub one_segment : (text : List ℕ) → position_or_len is_slash text ≡ length text → segments text ≡ text ∷ []
unfolding segments
one_segment [] none = refl
one_segment (c ∷ cs) none = one_by (is_slash c) c cs (one_segment cs) refl none

first_by : (b : Bool) (c : ℕ) (cs : List ℕ) → (position_or_len is_slash cs < length cs → segments cs ≡ before_first is_slash cs ∷ segments (after_first is_slash cs)) → is_slash c ≡ b
    → position_or_len is_slash (c ∷ cs) < length (c ∷ cs) → segments (c ∷ cs) ≡ before_first is_slash (c ∷ cs) ∷ segments (after_first is_slash (c ∷ cs))
first_by true c cs rest is some =
    let at = place_by true c cs is in
    whole_by true c cs is ∙ ap (λ n. take n (c ∷ cs) ∷ segments (drop (n + 1) (c ∷ cs))) (sym at)
first_by false c cs rest is some =
    let at = place_by false c cs is in
    let p = position_or_len is_slash cs in
    let more : suc p + 1 ≡ suc (p + 1) = omega arith in
    let later : p < length cs = omega arith in
    whole_by false c cs is ∙ ap (onto_first c) (rest later) ∙ ap (λ n. (c ∷ take p cs) ∷ segments (drop n (c ∷ cs))) (sym more) ∙ ap (λ n. take n (c ∷ cs) ∷ segments (drop (n + 1) (c ∷ cs))) (sym at)

pub first_segment : (text : List ℕ) → position_or_len is_slash text < length text → segments text ≡ before_first is_slash text ∷ segments (after_first is_slash text)
first_segment [] some = absurd (omega arith)
first_segment (c ∷ cs) some = first_by (is_slash c) c cs (first_segment cs) refl some

-- ---- one segment more

pub followed_first : (place : List (List ℕ)) (segment : List ℕ) (others all : List (List ℕ)) → all ≡ segment ∷ others → followed place all ≡ followed (entered place segment) others
unfolding followed
followed_first place segment others all is = ap (followed place) is

pub followed_last : (place : List (List ℕ)) (segment : List ℕ) (all : List (List ℕ)) → all ≡ segment ∷ [] → followed place all ≡ entered place segment
unfolding followed
followed_last place segment all is = ap (followed place) is

and_assoc : (a b c : Bool) → a && (b && c) ≡ (a && b) && c
and_assoc true b c = refl
and_assoc false b c = refl

pub stays_first : (inside now : Bool) (place : List (List ℕ)) (segment : List ℕ) (others all : List (List ℕ)) → all ≡ segment ∷ others → now ≡ not (is_up segment && is_root place)
    → inside && stays place all ≡ (inside && now) && stays (entered place segment) others
unfolding stays
stays_first inside now place segment others all is at =
    ap (λ xs. inside && stays place xs) is ∙ ap (λ b. inside && (b && stays (entered place segment) others)) (sym at) ∙ and_assoc inside now (stays (entered place segment) others)

and_true : (b : Bool) → b && true ≡ b
and_true true = refl
and_true false = refl

pub stays_last : (inside now : Bool) (place : List (List ℕ)) (segment : List ℕ) (all : List (List ℕ)) → all ≡ segment ∷ [] → now ≡ not (is_up segment && is_root place) → inside && stays place all ≡ inside && now
unfolding stays
stays_last inside now place segment all is at =
    ap (λ xs. inside && stays place xs) is ∙ ap (λ b. inside && (b && true)) (sym at) ∙ ap (λ b. inside && b) (and_true now)

-- ---- what a cut at a slash gives

pub record IsFirstCut (text first after : List ℕ) : Type 0 where
  pub is : segments text ≡ first ∷ segments after
  pub shorter : length after < length text

module _ (text : List ℕ) (r : Option (Bor (List ℕ) × Bor (List ℕ))) (split : IsSplitOnceResult 47 text r) where
  pub cut_some : (x : Bor (List ℕ) × Bor (List ℕ)) → r ≡ Some x → IsFirstCut text x.0.now x.1.now
  cut_some x is =
      let (inside, front, back) = rw is at (split_once_first 47 text r split (omega arith)) in
      record {
        is = first_segment text inside ∙ ap (λ t. t ∷ segments (after_first is_slash text)) (sym front) ∙ ap (λ t. x.0.now ∷ segments t) (sym back);
        shorter = (let short = ap (λ (t : List ℕ). length t) back in omega (arith, short, length-drop (position_or_len is_slash text + 1) text));
      }

  pub cut_none : r ≡ None → segments text ≡ text ∷ []
  cut_none is = one_segment text (rw is at (split_once_first 47 text r split (omega arith)))
