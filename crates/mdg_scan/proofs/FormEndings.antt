-- Why bytes are no ending, no call and no line of a function.
use Rattle.std.proofs.Common.{◌≡◌, ◌≢◌, ℕ, List, ◌++◌, sym, ◌∙◌, ap, refl, Bool, true, false, not}
use Rattle.std.specs.Prelude.{codes, nat_eq}
use Rattle.std.specs.Cmp.Lexicographic.{pointwise, bytes_decides}
use Rattle.std.specs.declared.option.Option.{Option}
use Rattle.std.specs.declared.option.Option.TheVariants.{Some, None}
use Rattle.std.proofs.lemmas.List.{append_cancel_left}
use Rattle.mdg_scan.specs.FormLines.{EachIs, Stops, IsEnding, IsCall, IsFunctionLine, ending, call, is_free, is_plain, is_lower}
use Rattle.mdg_scan.proofs.FormCuts.{cut_once}

pub no_ending : (bytes rest text end : List ℕ) → bytes ≢ codes "); }" → bytes ≡ codes " + '" ++ rest → rest ≡ text ++ end → EachIs is_plain text → Stops is_plain end → end ≢ codes "'); }" → (s : Option (List ℕ)) → IsEnding bytes s → ⊥
no_ending bytes rest text end bare begins parts pass stop other None ending = bare ending.spelt
no_ending bytes rest text end bare begins parts pass stop other (Some t) ending =
    let same : text ++ end ≡ t ++ codes "'); }" = sym parts ∙ append_cancel_left (codes " + '") rest (t ++ codes "'); }") (sym begins ∙ ending.spelt) in
    other ((cut_once is_plain text t end (codes "'); }") pass ending.plain stop refl same).1)

ending_stops : (text : Option (List ℕ)) → Stops is_lower (ending text)
ending_stops None = refl
ending_stops (Some t) = refl

-- a name and what follows it, of bytes that begin with some front
pub name_once : (front bytes rest name tail n after : List ℕ) → bytes ≡ front ++ rest → rest ≡ name ++ tail → EachIs is_lower name → Stops is_lower tail → EachIs is_lower n → Stops is_lower after → bytes ≡ front ++ (n ++ after) → (name ≡ n) × (tail ≡ after)
name_once front bytes rest name tail n after begins parts pass stop n_pass n_stop spelt =
    let same : name ++ tail ≡ n ++ after = sym parts ∙ append_cancel_left front rest (n ++ after) (sym begins ∙ spelt) in
    cut_once is_lower name n tail after pass n_pass stop n_stop same

pub call_once : (bytes rest parameter tail : List ℕ) → bytes ≡ codes ") { eval(" ++ rest → rest ≡ parameter ++ tail → EachIs is_lower parameter → Stops is_lower tail → (p : List ℕ) (t : Option (List ℕ)) → IsCall bytes p t → (parameter ≡ p) × (tail ≡ ending t)
call_once bytes rest parameter tail begins parts pass stop p t is =
    name_once (codes ") { eval(") bytes rest parameter tail p (ending t) begins parts pass stop is.lower (ending_stops t) is.spelt

pub no_call : (bytes rest parameter tail : List ℕ) → bytes ≡ codes ") { eval(" ++ rest → rest ≡ parameter ++ tail → EachIs is_lower parameter → Stops is_lower tail → ((t : Option (List ℕ)) → IsEnding tail t → ⊥) → (p : List ℕ) (t : Option (List ℕ)) → IsCall bytes p t → ⊥
no_call bytes rest parameter tail begins parts pass stop none p t is =
    none t (record { plain = is.plain; spelt = (call_once bytes rest parameter tail begins parts pass stop p t is).1 })

-- the parts of a line of a function, as they were cut
pub record LineCut (line rest name tail : List ℕ) : Type 0 where
  pub begins : line ≡ codes "function " ++ rest
  pub parts : rest ≡ name ++ tail
  pub pass : EachIs is_lower name
  pub stop : Stops is_lower tail

pub record ParameterCut (tail rest parameter last : List ℕ) : Type 0 where
  pub begins : tail ≡ codes "(" ++ rest
  pub parts : rest ≡ parameter ++ last
  pub pass : EachIs is_lower parameter
  pub stop : Stops is_lower last

pub name_part : {line rest name tail : List ℕ} → LineCut line rest name tail → (n p : List ℕ) (t : Option (List ℕ)) → IsFunctionLine line n p t → (name ≡ n) × (tail ≡ codes "(" ++ (p ++ call p t))
name_part {line} {rest} {name} {tail} c n p t is =
    name_once (codes "function ") line rest name tail n (codes "(" ++ (p ++ call p t)) c.begins c.parts c.pass c.stop is.named.lower refl is.spelt

pub parameter_part : {line rest name tail rest' parameter last : List ℕ} → LineCut line rest name tail → ParameterCut tail rest' parameter last → (n p : List ℕ) (t : Option (List ℕ)) → IsFunctionLine line n p t → (parameter ≡ p) × (last ≡ call p t)
parameter_part {tail = tail} {rest' = rest'} {parameter = parameter} {last = last} c d n p t is =
    name_once (codes "(") tail rest' parameter last p (call p t) d.begins d.parts d.pass d.stop is.takes.lower refl ((name_part c n p t is).1)

-- two calls that are spelt alike have one argument
pub argument_once : (bytes a p : List ℕ) (s t : Option (List ℕ)) → IsCall bytes a s → EachIs is_lower p → bytes ≡ call p t → a ≡ p
argument_once bytes a p s t is lower spelt =
    (name_once (codes ") { eval(") bytes (a ++ ending s) a (ending s) p (ending t) is.spelt refl is.lower (ending_stops s) lower (ending_stops t) spelt).0

pub unequal_texts : (xs ys : List ℕ) → true ≡ not (pointwise nat_eq xs ys) → xs ≢ ys
unequal_texts xs ys other same = let test : pointwise nat_eq xs ys ≡ true = (bytes_decides xs ys).1 same in cc

is_true : (b : Bool) → false ≡ not b → b ≡ true
is_true true other = refl
is_true false other = cc

pub equal_texts : (xs ys : List ℕ) → false ≡ not (pointwise nat_eq xs ys) → xs ≡ ys
equal_texts xs ys same = (bytes_decides xs ys).0 (is_true (pointwise nat_eq xs ys) same)

-- the parts that were cut are those of a line of a function
pub line_from_cuts : {line rest name tail rest' parameter last : List ℕ} → LineCut line rest name tail → ParameterCut tail rest' parameter last → (argument : List ℕ) (text : Option (List ℕ)) → IsCall last argument text → argument ≡ parameter → true ≡ is_free name → true ≡ is_free parameter → IsFunctionLine line name parameter text
line_from_cuts {line} {rest} {name} {tail} {rest'} {parameter} {last} c d argument text is same name_free parameter_free = record {
  named = record { lower = c.pass; free = sym name_free };
  takes = record { lower = d.pass; free = sym parameter_free };
  plain = is.plain;
  spelt = c.begins ∙ ap (λ w. codes "function " ++ w) (c.parts ∙ ap (λ w. name ++ w) (d.begins ∙ ap (λ w. codes "(" ++ w) (d.parts ∙ ap (λ w. parameter ++ w) (is.spelt ∙ ap (λ w. call w text) same))));
}
