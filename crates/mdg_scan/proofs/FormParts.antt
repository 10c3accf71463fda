-- The parts that are taken of a line are those that spell it.
use Rattle.std.proofs.Common.{◌≡◌, ℕ, ◌<◌, List, [], ◌∷◌, ◌++◌, length, drop, cond, ◌∙◌, ap, subst, refl, Bool, true, false, ◌&&◌, arith}
use Rattle.std.specs.Prelude.{codes, IfSome, Option, Some, None}
use Rattle.std.specs.Str.{bytes_eq, IsAscii}
use Rattle.std.specs.Cmp.Lexicographic.{bytes_decides}
use Rattle.std.proofs.Math.Seq.{drop-append_seam}
use Rattle.std.proofs.lemmas.Str.Ascii.{IsAscii-nil, IsAscii-cons}
use Rattle.std.proofs.lemmas.Bool.Decides.{nat_tests}
use Rattle.mdg_scan.specs.declared.first.form.FormFunction.{FormFunction}
use Rattle.mdg_scan.specs.FormLines.{EachIs, Stops, IsFunctionLine, ending, call, function_line, is_free, is_plain, is_lower}
use Rattle.mdg_scan.specs.Form.{front_of, name_of, after_name, parameter_of, after_parameter, added_of, text_of, function_of}

-- the front ends where the test first fails
pub front_once : (p : ℕ → Bool) (a x : List ℕ) → EachIs p a → Stops p x → front_of p (a ++ x) ≡ a
front_once p [] [] pass stop = refl
front_once p [] (c ∷ x) pass stop = ap (λ b. cond b (c ∷ front_of p x) []) stop
front_once p (c ∷ a) x pass stop =
    ap (λ b. cond b (c ∷ front_of p (a ++ x)) []) pass.0 ∙ ap (λ w. c ∷ w) (front_once p a x pass.1 stop)

pub front_passes : (p : ℕ → Bool) (x : List ℕ) → EachIs p (front_of p x)
front_passes p [] = tt
front_passes p (c ∷ x) =
    (elim (p c) as (λ b. p c ≡ b → EachIs p (cond b (c ∷ front_of p x) [])) [
      | true ↦ λ is. (is, front_passes p x)
      | false ↦ λ is. tt
    ]) refl

name_part : (n p : List ℕ) (t : Option (List ℕ)) → EachIs is_lower n → name_of (function_line n p t) ≡ n
name_part n p t lower = front_once is_lower n (codes "(" ++ (p ++ call p t)) lower refl

after_name_part : (n p : List ℕ) (t : Option (List ℕ)) → EachIs is_lower n → after_name (function_line n p t) ≡ p ++ call p t
after_name_part n p t lower =
    ap (λ (w : List ℕ). drop 1 (drop (length w) (n ++ (codes "(" ++ (p ++ call p t))))) (name_part n p t lower)
    ∙ ap (λ (w : List ℕ). drop 1 w) (drop-append_seam n (codes "(" ++ (p ++ call p t)))

ending_stops : (text : Option (List ℕ)) → Stops is_lower (ending text)
ending_stops None = refl
ending_stops (Some t) = refl

parameter_part : (n p : List ℕ) (t : Option (List ℕ)) → EachIs is_lower n → EachIs is_lower p → parameter_of (function_line n p t) ≡ p
parameter_part n p t n_lower lower =
    ap (front_of is_lower) (after_name_part n p t n_lower) ∙ front_once is_lower p (call p t) lower refl

after_parameter_part : (n p : List ℕ) (t : Option (List ℕ)) → EachIs is_lower n → EachIs is_lower p → after_parameter (function_line n p t) ≡ p ++ ending t
after_parameter_part n p t n_lower lower =
    ap (λ (w : List ℕ). drop 9 (drop (length w) (after_name (function_line n p t)))) (parameter_part n p t n_lower lower)
    ∙ ap (λ (w : List ℕ). drop 9 (drop (length p) w)) (after_name_part n p t n_lower)
    ∙ ap (λ (w : List ℕ). drop 9 w) (drop-append_seam p (call p t))

added_part : (t : Option (List ℕ)) → IfSome t (EachIs is_plain) → added_of (ending t) ≡ t
added_part None plain = refl
added_part (Some text) plain = ap Some (front_once is_plain text (codes "'); }") plain refl)

text_part : (n p : List ℕ) (t : Option (List ℕ)) → EachIs is_lower n → EachIs is_lower p → IfSome t (EachIs is_plain) → text_of (function_line n p t) ≡ t
text_part n p t n_lower lower plain =
    ap (λ (w : List ℕ). added_of (drop (length w) (after_parameter (function_line n p t)))) (parameter_part n p t n_lower lower)
    ∙ ap (λ (w : List ℕ). added_of (drop (length p) w)) (after_parameter_part n p t n_lower lower)
    ∙ ap added_of (drop-append_seam p (ending t))
    ∙ added_part t plain

abbrev found : ℕ → List ℕ → List ℕ → Option (List ℕ) → FormFunction
found number n p t = record { name = n; parameter = p; text = t; line = number }

-- what is read of a line once its parts are taken
abbrev judged : ℕ → List ℕ → List ℕ → List ℕ → Option (List ℕ) → Option FormFunction
judged number line n p t = cond (bytes_eq line (function_line n p t) && (is_free n && is_free p)) (Some (found number n p t)) None

judged_fits : (number : ℕ) (line n p : List ℕ) (t : Option (List ℕ)) → IsFunctionLine line n p t → judged number line n p t ≡ Some (found number n p t)
judged_fits number line n p t is =
    let same : bytes_eq line (function_line n p t) ≡ true = (bytes_decides line (function_line n p t)).1 is.spelt in
    ap (λ b. cond (b && (is_free n && is_free p)) (Some (found number n p t)) None) same
    ∙ ap (λ b. cond (b && is_free p) (Some (found number n p t)) None) is.named.free
    ∙ ap (λ b. cond b (Some (found number n p t)) None) is.takes.free

-- a line that declares a function is read as that
pub function_of-line : (number : ℕ) (line n p : List ℕ) (t : Option (List ℕ)) → IsFunctionLine line n p t → function_of number line ≡ Some (record { name = n; parameter = p; text = t; line = number })
unfolding function_of
function_of-line number line n p t is =
    let e : line ≡ function_line n p t = is.spelt in
    let name_is : name_of line ≡ n = ap name_of e ∙ name_part n p t is.named.lower in
    let parameter_is : parameter_of line ≡ p = ap parameter_of e ∙ parameter_part n p t is.named.lower is.takes.lower in
    let text_is : text_of line ≡ t = ap text_of e ∙ text_part n p t is.named.lower is.takes.lower is.plain in
    ap (λ w. judged number line w (parameter_of line) (text_of line)) name_is
    ∙ ap (λ w. judged number line n w (text_of line)) parameter_is
    ∙ ap (λ w. judged number line n p w) text_is
    ∙ judged_fits number line n p t is

added_plain : (after : List ℕ) → IfSome (added_of after) (EachIs is_plain)
added_plain after =
    elim (bytes_eq after (ending None)) as (λ b. IfSome (cond b None (Some (front_of is_plain (drop 4 after)))) (EachIs is_plain)) [
      | true ↦ tt
      | false ↦ front_passes is_plain (drop 4 after)
    ]

-- what is read of a line spells it
pub record IsRead (number : ℕ) (line : List ℕ) (function : FormFunction) : Type 0 where
  pub is_line : IsFunctionLine line function.name function.parameter function.text
  pub is_number : function.line ≡ number

judged_spells : (number : ℕ) (line n p : List ℕ) (t : Option (List ℕ)) (f : FormFunction) → EachIs is_lower n → EachIs is_lower p → IfSome t (EachIs is_plain) → (same free_n free_p : Bool) → bytes_eq line (function_line n p t) ≡ same → is_free n ≡ free_n → is_free p ≡ free_p → cond (same && (free_n && free_p)) (Some (found number n p t)) None ≡ Some f → IsRead number line f
judged_spells number line n p t f n_lower p_lower plain true true true e n_free p_free is =
    let one : found number n p t ≡ f = cc in
    subst (IsRead number line) one (record {
      is_line = record {
        named = record { lower = n_lower; free = n_free };
        takes = record { lower = p_lower; free = p_free };
        plain = plain;
        spelt = (bytes_decides line (function_line n p t)).0 e;
      };
      is_number = refl;
    })
judged_spells number line n p t f n_lower p_lower plain true true false e n_free p_free is = cc
judged_spells number line n p t f n_lower p_lower plain true false free_p e n_free p_free is = cc
judged_spells number line n p t f n_lower p_lower plain false free_n free_p e n_free p_free is = cc

pub function_of-spells : (number : ℕ) (line : List ℕ) (f : FormFunction) → function_of number line ≡ Some f → IsRead number line f
unfolding function_of
function_of-spells number line f is =
    judged_spells number line (name_of line) (parameter_of line) (text_of line) f (front_passes is_lower (drop 9 line)) (front_passes is_lower (after_name line))
    (added_plain (drop (length (parameter_of line)) (after_parameter line)))
    (bytes_eq line (function_line (name_of line) (parameter_of line) (text_of line))) (is_free (name_of line)) (is_free (parameter_of line)) refl refl refl is

-- a line that nothing spells declares no function
pub function_of-none : (number : ℕ) (line : List ℕ) → ((n p : List ℕ) (t : Option (List ℕ)) → IsFunctionLine line n p t → ⊥) → function_of number line ≡ None
function_of-none number line none =
    (elim (function_of number line) as (λ (o : Option FormFunction). function_of number line ≡ o → o ≡ None) [
      | None ↦ λ is. refl
      | Some f ↦ λ is. absurd (none f.name f.parameter f.text (function_of-spells number line f is).is_line)
    ]) refl

-- letters, digits and spaces are ASCII
lower_below : (c : ℕ) → is_lower c ≡ true → c < 128
lower_below c is = grind (arith, nat_tests)

plain_below : (c : ℕ) → is_plain c ≡ true → c < 128
plain_below c is = grind (arith, nat_tests)

pub lower_ascii : (a : List ℕ) → EachIs is_lower a → IsAscii a
lower_ascii [] pass = IsAscii-nil
lower_ascii (c ∷ a) pass = IsAscii-cons c a (lower_below c pass.0) (lower_ascii a pass.1)

pub plain_ascii : (a : List ℕ) → EachIs is_plain a → IsAscii a
plain_ascii [] pass = IsAscii-nil
plain_ascii (c ∷ a) pass = IsAscii-cons c a (plain_below c pass.0) (plain_ascii a pass.1)
