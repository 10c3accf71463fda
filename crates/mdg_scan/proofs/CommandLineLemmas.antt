-- What the words of the command line are.
use Rattle.std.proofs.Common.{◌≡◌, ◌⊎◌, inl, inr, ℕ, zero, suc, ◌+◌, ◌<◌, ◌≤◌, Bool, true, false, if◌then◌else◌, List, [], ◌∷◌, String, ◌++◌, length, take, drop, get_or, refl, sym, ◌∙◌, ap, arith, bytes_eq, is_ok, Result, Ok, Err}
use Rattle.std.specs.declared.option.Option.{Option}
use Rattle.std.specs.declared.option.Option.TheVariants.{Some, None}
use mathlib.Core.List.{append_assoc}
use Rattle.std.specs.Fmt.{decimal}
use Rattle.std.specs.String.{string_bytes}
use Rattle.std.specs.declared.alloc.Global.{Global}
use Rattle.std.specs.List.{filter_map}
use Rattle.std.proofs.lemmas.Fmt.{decimal_injective, parse-decimal}
use Rattle.std.proofs.lemmas.List.{drop_more, drop_all, take_more, take-append-drop, append-nil}
use Rattle.std.proofs.lemmas.List.Elements.{filter_map-append}
use Rattle.std.proofs.lemmas.Slice.Eq.{bytes_eq-Decides}
use Rattle.std.specs.Str.Parse.{ParsesUnsigned}
use Rattle.mdg_scan.specs.declared.argument.Argument.{Argument}
use Rattle.mdg_scan.specs.declared.argument.Argument.TheVariants as argument
use Rattle.mdg_scan.specs.declared.argument.Valued.{Valued}
use Rattle.mdg_scan.specs.declared.argument.Taken.TheVariants.{Whole, Open, Wrong}
use Rattle.mdg_scan.specs.declared.argument.Given.{Given}
use Rattle.mdg_scan.specs.CommandLine.{number_up_to, take_word, prepended, followed, arguments_of, texts_of, workers_in, json_in, profile_in, plain_in, at_most_one, is_there, given_by, given, is_given, with_argument}

ok_is : {A E : Type 0} (a b : A) → ◌≡◌ {A = Result A E} (Ok a) (Ok b) → a ≡ b
ok_is a b same = cc

some_is : {A : Type 0} (a b : A) → Some a ≡ Some b → a ≡ b
some_is a b same = cc

true_false : true ≡ false → ⊥
true_false same = cc

chosen : {A : Type 0} (b : Bool) (x y z : A) → (b ≡ true → x ≡ z) → (b ≡ false → y ≡ z) → (if b then x else y) ≡ z
chosen true x y z first last = first refl
chosen false x y z first last = last refl

-- ---- numbers

no_number : (limit : ℕ) (text : List ℕ) → ((n : ℕ) → 1 ≤ n → n ≤ limit → text ≡ decimal n → ⊥) → number_up_to limit text ≡ None
unfolding number_up_to
no_number zero text other = refl
no_number (suc n) text other =
    chosen (bytes_eq text (decimal (suc n))) (Some (suc n)) (number_up_to n text) None
    (λ same. absurd (other (suc n) (omega arith) (omega arith) ((bytes_eq-Decides text (decimal (suc n))).0 same)))
    (λ _. no_number n text (λ k low high is. other k low (omega (arith, high)) is))

one_number : (limit n : ℕ) (text : List ℕ) → 1 ≤ n → n ≤ limit → limit < 1000 → text ≡ decimal n → number_up_to limit text ≡ Some n
unfolding number_up_to
one_number zero n text low high small is = absurd (omega (arith, low, high))
one_number (suc m) n text low high small is =
    chosen (bytes_eq text (decimal (suc m))) (Some (suc m)) (number_up_to m text) (Some n)
    (λ same. ap Some (decimal_injective (suc m) n (omega (arith, small)) (omega (arith, high, small)) (sym ((bytes_eq-Decides text (decimal (suc m))).0 same) ∙ is)))
    (λ differs. one_number m n text low (below m n high (λ equal. true_false (sym ((bytes_eq-Decides text (decimal (suc m))).1 (is ∙ ap decimal equal)) ∙ differs))) (omega (arith, small)) is)
  where
    below : (m n : ℕ) → n ≤ suc m → (n ≡ suc m → ⊥) → n ≤ m
    below m n high differs = omega (arith, high, differs)

-- what a text of digits is read as
read_as : {E : Type 0} (n : ℕ) (text : List ℕ) (r : Result ℕ E) → n < 1000 → text ≡ decimal n → ParsesUnsigned 32 10 text r → r ≡ Ok n
read_as n text r small is parses = parse-decimal 32 n text r (omega (arith, small)) (omega (arith, small)) is parses

pub not_read : {E : Type 0} (limit : ℕ) (text : List ℕ) (r : Result ℕ E) (e : E) → limit < 1000 → ParsesUnsigned 32 10 text r → r ≡ Err e → number_up_to limit text ≡ None
not_read limit text r e small parses failed =
    no_number limit text (λ n low high is. true_false (sym (ap is_ok (read_as n text r (omega (arith, high, small)) is parses)) ∙ ap is_ok failed))

-- each number in range that the text spells is the one that was read
pub read_number : {E : Type 0} (limit : ℕ) (text : List ℕ) (r : Result ℕ E) (number : ℕ) → limit < 1000 → ParsesUnsigned 32 10 text r → r ≡ Ok number → (n : ℕ) → n ≤ limit → text ≡ decimal n → number ≡ n
read_number limit text r number small parses read n high is = ok_is number n (sym read ∙ read_as n text r (omega (arith, high, small)) is parses)

pub number_zero : {E : Type 0} (limit : ℕ) (text : List ℕ) (r : Result ℕ E) (number : ℕ) → limit < 1000 → ParsesUnsigned 32 10 text r → r ≡ Ok number → number ≡ 0 → number_up_to limit text ≡ None
number_zero limit text r number small parses read none =
    no_number limit text (λ n low high is. omega (arith, low, none, read_number limit text r number small parses read n high is))

pub number_past : {E : Type 0} (limit : ℕ) (text : List ℕ) (r : Result ℕ E) (number : ℕ) → limit < 1000 → ParsesUnsigned 32 10 text r → r ≡ Ok number → limit < number → number_up_to limit text ≡ None
number_past limit text r number small parses read past =
    no_number limit text (λ n low high is. omega (arith, high, past, read_number limit text r number small parses read n high is))

pub other_spelling : {E : Type 0} (limit : ℕ) (text : List ℕ) (r : Result ℕ E) (number : ℕ) → limit < 1000 → ParsesUnsigned 32 10 text r → r ≡ Ok number → bytes_eq (decimal number) text ≡ false → number_up_to limit text ≡ None
other_spelling limit text r number small parses read differs =
    no_number limit text (λ n low high is. true_false (sym ((bytes_eq-Decides (decimal number) text).1 (ap decimal (read_number limit text r number small parses read n high is) ∙ sym is)) ∙ differs))

pub same_spelling : (limit : ℕ) (text : List ℕ) (number : ℕ) → limit < 1000 → 1 ≤ number → number ≤ limit → bytes_eq (decimal number) text ≡ true → number_up_to limit text ≡ Some number
same_spelling limit text number small low high same = one_number limit number text low high small (sym ((bytes_eq-Decides (decimal number) text).0 same))

-- ---- the words after the command

from_word : (waiting : Option Valued) (word : List ℕ) (words : List (List ℕ)) → arguments_of waiting (word ∷ words) ≡ followed (take_word waiting word) (λ next. arguments_of next words)
unfolding arguments_of
from_word None word words = refl
from_word (Some option) word words = refl

no_words : arguments_of None [] ≡ Some []
unfolding arguments_of
no_words = refl

no_value : (option : Valued) → arguments_of (Some option) [] ≡ None
unfolding arguments_of
no_value option = refl

one_prepended : (arguments : List Argument) (p : Argument) (rest : Option (List Argument)) → prepended arguments (prepended (p ∷ []) rest) ≡ prepended (arguments ++ p ∷ []) rest
one_prepended arguments p None = refl
one_prepended arguments p (Some rest) = ap Some (sym (append_assoc arguments (p ∷ []) rest))

-- one more of the words
module _ (words : List (String Global)) (i : ℕ) (word : String Global) (inside : i < length words) (at : word ≡ get_or words i word) (waiting : Option Valued) where
  texts_more : texts_of (drop i words) ≡ string_bytes word ∷ texts_of (drop (i + 1) words)
  texts_more = ap texts_of (drop_more words i word inside) ∙ ap (λ w. string_bytes w ∷ texts_of (drop (i + 1) words)) (sym at)

  arguments_from : arguments_of waiting (texts_of (drop i words)) ≡ followed (take_word waiting (string_bytes word)) (λ next. arguments_of next (texts_of (drop (i + 1) words)))
  arguments_from = ap (arguments_of waiting) texts_more ∙ from_word waiting (string_bytes word) (texts_of (drop (i + 1) words))

  pub word_whole : (arguments : List Argument) (p : Argument) → take_word waiting (string_bytes word) ≡ Whole p
      → prepended arguments (arguments_of waiting (texts_of (drop i words))) ≡ prepended (arguments ++ p ∷ []) (arguments_of None (texts_of (drop (i + 1) words)))
  word_whole arguments p is =
      ap (prepended arguments) (arguments_from ∙ ap (λ t. followed t (λ next. arguments_of next (texts_of (drop (i + 1) words)))) is)
      ∙ one_prepended arguments p (arguments_of None (texts_of (drop (i + 1) words)))

  pub word_open : (arguments : List Argument) (option : Valued) → take_word waiting (string_bytes word) ≡ Open option
      → prepended arguments (arguments_of waiting (texts_of (drop i words))) ≡ prepended arguments (arguments_of (Some option) (texts_of (drop (i + 1) words)))
  word_open arguments option is = ap (prepended arguments) (arguments_from ∙ ap (λ t. followed t (λ next. arguments_of next (texts_of (drop (i + 1) words)))) is)

  pub word_wrong : (arguments : List Argument) → take_word waiting (string_bytes word) ≡ Wrong → prepended arguments (arguments_of waiting (texts_of (drop i words))) ≡ None
  word_wrong arguments is = ap (prepended arguments) (arguments_from ∙ ap (λ t. followed t (λ next. arguments_of next (texts_of (drop (i + 1) words)))) is)

-- no more words
module _ (words : List (String Global)) (i : ℕ) (past : length words ≤ i) where
  pub words_end : (arguments : List Argument) → prepended arguments (arguments_of None (texts_of (drop i words))) ≡ Some arguments
  words_end arguments = ap (λ ws. prepended arguments (arguments_of None (texts_of ws))) (drop_all i words past) ∙ ap (prepended arguments) no_words ∙ ap Some (append-nil arguments)

  pub words_open_end : (arguments : List Argument) (option : Valued) → prepended arguments (arguments_of (Some option) (texts_of (drop i words))) ≡ None
  words_open_end arguments option = ap (λ ws. prepended arguments (arguments_of (Some option) (texts_of ws))) (drop_all i words past) ∙ ap (prepended arguments) (no_value option)

-- ---- each at most once

one_more : {A : Type 0} (xs : List A) (x : A) → at_most_one xs ≡ Some None → at_most_one (xs ++ x ∷ []) ≡ Some (Some x)
one_more [] x is = refl
one_more (y ∷ []) x is = absurd (cc)
one_more (y ∷ z ∷ ys) x is = absurd (cc)

too_many : {A : Type 0} (xs : List A) (x y : A) (rest : List A) → at_most_one xs ≡ Some (Some y) → at_most_one (xs ++ x ∷ rest) ≡ None
too_many [] x y rest is = absurd (cc)
too_many (z ∷ []) x y rest is = refl
too_many (z ∷ w ∷ ys) x y rest is = absurd (cc)

-- how the arguments give what is given
record Are (workers : Option (Option ℕ)) (json : Option (Option Unit)) (profile plain : Option (Option (List ℕ))) (g : Given) : Type 0 where
  flag : Option Unit
  of_workers : workers ≡ Some g.workers
  of_json : json ≡ Some flag
  of_profile : profile ≡ Some g.profile
  of_plain : plain ≡ Some g.plain
  flag_is : is_there flag ≡ g.json

are : (workers : Option (Option ℕ)) (json : Option (Option Unit)) (profile plain : Option (Option (List ℕ))) (g : Given) → given_by workers json profile plain ≡ Some g → Are workers json profile plain g
are None json profile plain g is = absurd (cc)
are (Some w) None profile plain g is = absurd (cc)
are (Some w) (Some j) None plain g is = absurd (cc)
are (Some w) (Some j) (Some p) None g is = absurd (cc)
are (Some w) (Some j) (Some p) (Some f) g is =
    let same : record { workers = w; json = is_there j; profile = p; plain = f } ≡ g = some_is _ _ is in
    record { flag = j; of_workers = ap (λ (x : Given). Some x.workers) same; of_json = refl; of_profile = ap (λ (x : Given). Some x.profile) same; of_plain = ap (λ (x : Given). Some x.plain) same; flag_is = ap (λ (x : Given). x.json) same }

all_are : (arguments : List Argument) (g : Given) → given arguments ≡ Some g → Are (at_most_one (filter_map workers_in arguments)) (at_most_one (filter_map json_in arguments)) (at_most_one (filter_map profile_in arguments)) (at_most_one (filter_map plain_in arguments)) g
unfolding given
all_are arguments g is = are _ _ _ _ g is

given_as : (arguments : List Argument) (w : Option (Option ℕ)) (j : Option (Option Unit)) (p f : Option (Option (List ℕ)))
    → at_most_one (filter_map workers_in arguments) ≡ w → at_most_one (filter_map json_in arguments) ≡ j → at_most_one (filter_map profile_in arguments) ≡ p → at_most_one (filter_map plain_in arguments) ≡ f
    → given arguments ≡ given_by w j p f
unfolding given
given_as arguments w j p f a b c d = rw (a, b, c, d) refl

-- one more argument of another kind
same_kind : {A : Type 0} (kind : Argument → Option A) (xs : List Argument) (p : Argument) (o : Option (Option A)) → filter_map kind (p ∷ []) ≡ [] → at_most_one (filter_map kind xs) ≡ o → at_most_one (filter_map kind (xs ++ p ∷ [])) ≡ o
same_kind kind xs p o other is = ap at_most_one (filter_map-append kind xs (p ∷ []) ∙ ap (λ ys. filter_map kind xs ++ ys) other ∙ append-nil (filter_map kind xs)) ∙ is

-- the first argument of a kind
new_kind : {A : Type 0} (kind : Argument → Option A) (xs : List Argument) (p : Argument) (x : A) → filter_map kind (p ∷ []) ≡ x ∷ [] → at_most_one (filter_map kind xs) ≡ Some None → at_most_one (filter_map kind (xs ++ p ∷ [])) ≡ Some (Some x)
new_kind kind xs p x one is = ap at_most_one (filter_map-append kind xs (p ∷ []) ∙ ap (λ ys. filter_map kind xs ++ ys) one) ∙ one_more (filter_map kind xs) x is

-- another argument of a kind
kind_twice : {A : Type 0} (kind : Argument → Option A) (xs : List Argument) (p : Argument) (rest : List Argument) (x y : A) (more : List A) → filter_map kind (p ∷ rest) ≡ x ∷ more → at_most_one (filter_map kind xs) ≡ Some (Some y) → at_most_one (filter_map kind (xs ++ p ∷ rest)) ≡ None
kind_twice kind xs p rest x y more one is = ap at_most_one (filter_map-append kind xs (p ∷ rest) ∙ ap (λ ys. filter_map kind xs ++ ys) one) ∙ too_many (filter_map kind xs) x y more is

not_there : {A : Type 0} (o : Option A) → is_there o ≡ false → o ≡ None
not_there None is = refl
not_there (Some x) is = absurd (cc)

there : {A : Type 0} (o : Option A) → is_there o ≡ true → (x : A) × (o ≡ Some x)
there None is = absurd (cc)
there (Some x) is = (x, refl)

given_more : (xs : List Argument) (p : Argument) (g : Given) → given xs ≡ Some g → is_given g p ≡ false → given (xs ++ p ∷ []) ≡ Some (with_argument g p)
given_more xs (argument.Workers n) g is new =
    let a = all_are xs g is in
    given_as _ _ _ _ _ (new_kind workers_in xs (argument.Workers n) n refl (a.of_workers ∙ ap Some (not_there g.workers new))) (same_kind json_in xs (argument.Workers n) _ refl a.of_json) (same_kind profile_in xs (argument.Workers n) _ refl a.of_profile) (same_kind plain_in xs (argument.Workers n) _ refl a.of_plain)
    ∙ ap (λ b. Some (record { workers = Some n; json = b; profile = g.profile; plain = g.plain })) a.flag_is
given_more xs argument.Json g is new =
    let a = all_are xs g is in
    given_as _ _ _ _ _ (same_kind workers_in xs argument.Json _ refl a.of_workers) (new_kind json_in xs argument.Json tt refl (a.of_json ∙ ap Some (not_there a.flag (a.flag_is ∙ new)))) (same_kind profile_in xs argument.Json _ refl a.of_profile) (same_kind plain_in xs argument.Json _ refl a.of_plain)
given_more xs (argument.Profile file) g is new =
    let a = all_are xs g is in
    given_as _ _ _ _ _ (same_kind workers_in xs (argument.Profile file) _ refl a.of_workers) (same_kind json_in xs (argument.Profile file) _ refl a.of_json) (new_kind profile_in xs (argument.Profile file) file refl (a.of_profile ∙ ap Some (not_there g.profile new))) (same_kind plain_in xs (argument.Profile file) _ refl a.of_plain)
    ∙ ap (λ b. Some (record { workers = g.workers; json = b; profile = Some file; plain = g.plain })) a.flag_is
given_more xs (argument.Plain word) g is new =
    let a = all_are xs g is in
    given_as _ _ _ _ _ (same_kind workers_in xs (argument.Plain word) _ refl a.of_workers) (same_kind json_in xs (argument.Plain word) _ refl a.of_json) (same_kind profile_in xs (argument.Plain word) _ refl a.of_profile) (new_kind plain_in xs (argument.Plain word) word refl (a.of_plain ∙ ap Some (not_there g.plain new)))
    ∙ ap (λ b. Some (record { workers = g.workers; json = b; profile = g.profile; plain = Some word })) a.flag_is

no_given : (w : Option (Option ℕ)) (j : Option (Option Unit)) (p f : Option (Option (List ℕ))) → (w ≡ None) ⊎ (j ≡ None) ⊎ (p ≡ None) ⊎ (f ≡ None) → given_by w j p f ≡ None
no_given None j p f one = refl
no_given (Some w) None p f one = refl
no_given (Some w) (Some j) None f one = refl
no_given (Some w) (Some j) (Some p) None one = refl
no_given (Some w) (Some j) (Some p) (Some f) (inl is) = absurd (cc)
no_given (Some w) (Some j) (Some p) (Some f) (inr (inl is)) = absurd (cc)
no_given (Some w) (Some j) (Some p) (Some f) (inr (inr (inl is))) = absurd (cc)
no_given (Some w) (Some j) (Some p) (Some f) (inr (inr (inr is))) = absurd (cc)

given_twice : (xs : List Argument) (p : Argument) (rest : List Argument) (g : Given) → given xs ≡ Some g → is_given g p ≡ true → given (xs ++ p ∷ rest) ≡ None
given_twice xs (argument.Workers n) rest g is old =
    let a = all_are xs g is in
    let x = there g.workers old in
    given_as (xs ++ argument.Workers n ∷ rest) _ _ _ _ refl refl refl refl ∙ no_given _ _ _ _ (inl (kind_twice workers_in xs (argument.Workers n) rest n x.0 _ refl (a.of_workers ∙ ap Some x.1)))
given_twice xs argument.Json rest g is old =
    let a = all_are xs g is in
    let x = there a.flag (a.flag_is ∙ old) in
    given_as (xs ++ argument.Json ∷ rest) _ _ _ _ refl refl refl refl ∙ no_given _ _ _ _ (inr (inl (kind_twice json_in xs argument.Json rest tt x.0 _ refl (a.of_json ∙ ap Some x.1))))
given_twice xs (argument.Profile file) rest g is old =
    let a = all_are xs g is in
    let x = there g.profile old in
    given_as (xs ++ argument.Profile file ∷ rest) _ _ _ _ refl refl refl refl ∙ no_given _ _ _ _ (inr (inr (inl (kind_twice profile_in xs (argument.Profile file) rest file x.0 _ refl (a.of_profile ∙ ap Some x.1)))))
given_twice xs (argument.Plain word) rest g is old =
    let a = all_are xs g is in
    let x = there g.plain old in
    given_as (xs ++ argument.Plain word ∷ rest) _ _ _ _ refl refl refl refl ∙ no_given _ _ _ _ (inr (inr (inr (kind_twice plain_in xs (argument.Plain word) rest word x.0 _ refl (a.of_plain ∙ ap Some x.1)))))

pub no_arguments : given [] ≡ Some (record { workers = None; json = false; profile = None; plain = None })
unfolding given
no_arguments = refl

-- one more of the arguments
module _ (arguments : List Argument) (i : ℕ) (p : Argument) (inside : i < length arguments) (at : p ≡ get_or arguments i p) (g : Given) (so_far : given (take i arguments) ≡ Some g) where
  pub arguments_more : is_given g p ≡ false → given (take (i + 1) arguments) ≡ Some (with_argument g p)
  arguments_more new = ap given (take_more arguments i p inside ∙ ap (λ x. take i arguments ++ x ∷ []) (sym at)) ∙ given_more (take i arguments) p g so_far new

  pub arguments_twice : is_given g p ≡ true → given arguments ≡ None
  arguments_twice old =
      let arguments_are : arguments ≡ take i arguments ++ p ∷ drop (i + 1) arguments = sym (take-append-drop i arguments) ∙ ap (λ ys. take i arguments ++ ys) (drop_more arguments i p inside ∙ ap (λ x. x ∷ drop (i + 1) arguments) (sym at)) in
      ap given arguments_are ∙ given_twice (take i arguments) p (drop (i + 1) arguments) g so_far old
