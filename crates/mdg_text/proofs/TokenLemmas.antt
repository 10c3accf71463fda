-- One token.
use Rattle.std.proofs.Common.{◌≡◌, ℕ, ◌≤◌, ◌<◌, true, false, ◌&&◌, ◌==◌, ◌⊎◌, inl, inr, List, [], ◌∷◌, ◌++◌, length, take, drop, arith, refl, sym, ap, ◌∙◌, subst, length-append, eq-eqb, eqb-true, Contains}
use Rattle.std.specs.Prelude.{Option, Some, None, nat_le}
use Rattle.std.proofs.lemmas.List.{take_at, drop_at}
use Rattle.std.proofs.lemmas.Bool.{leb-true, leb-false}
use Rattle.std.proofs.lemmas.List.Elements.{All-contains}
use Rattle.std.proofs.lemmas.List.Sums.{AllPass-from_list_all}
use Rattle.std.specs.Str.{encode_utf8_all}
use Rattle.mdg_text.specs.declared.token.TokenKind.{TokenKind}
use Rattle.mdg_text.specs.declared.token.TokenKind.TheVariants as variant
use Rattle.mdg_text.specs.Characters.{is_quote}
use Rattle.mdg_text.specs.ReservedWord.{reserved_words}
use Rattle.mdg_text.specs.Punctuator.{punctuators}
use Rattle.mdg_text.specs.StringLiteral.{IsStringBody}
use Rattle.mdg_text.specs.Lexeme.{IsIdentifier, Spells, name, reserved_word, number, string_literal, punctuator, BeginsHtmlComment, IsToken, BeginsToken}
use Rattle.mdg_text.specs.Scanner as r
use Rattle.mdg_text.specs.Scanner.{Found, Part, before, is_in, kind_of, name_at, number_at, string_at, punctuator_of, longer, longest_at, begins_html_comment, token_at, ◌>>=◌}
use Rattle.mdg_text.proofs.ClassLemmas.{class_of, name_class, number_class, quote_class, punctuator_class}
use Rattle.mdg_base.proofs.Decisions.{some_is, unguarded, both_true, decided, contradict}
use Rattle.mdg_text.proofs.ScannerLemmas.{bind_ok, before_is, is_in-true, is_in-contains}
use Rattle.mdg_text.proofs.NumberLemmas.{number-append, number_is}
use Rattle.mdg_text.proofs.NameLemmas.{name_sound, name_most, punctuator_sound, punctuator_goes}
use Rattle.mdg_text.proofs.StringLemmas.{string_reads, string_is, string_body_cut, string_body_reads}

pub record IsSpelled (source : List ℕ) (f : Found) : Type 0 where
  pub prefix : List ℕ
  pub cut : source ≡ prefix ++ f.rest
  pub spells : Spells prefix f.rest f.kind f.value

-- what is read spells
kinded : (prefix rest : List ℕ) → IsIdentifier prefix → Spells prefix rest (kind_of (encode_utf8_all prefix)) (encode_utf8_all prefix)
kinded prefix rest i = elim (decided (is_in reserved_words (encode_utf8_all prefix))) [
  | inl on ↦ rw on (reserved_word i (is_in-true reserved_words (encode_utf8_all prefix) on))
  | inr off ↦ rw off (name i (λ c. contradict (is_in-contains reserved_words (encode_utf8_all prefix) c) off))
]

of_prefix : (source prefix : List ℕ) (f : Found) → source ≡ prefix ++ f.rest → f.value ≡ encode_utf8_all (before source f.rest) → Spells prefix f.rest f.kind (encode_utf8_all prefix) → IsSpelled source f
of_prefix source prefix f cut value s = record { prefix = prefix; cut = cut; spells = subst (λ (v : List ℕ). Spells prefix f.rest f.kind v) (sym (value ∙ ap encode_utf8_all (before_is source prefix f.rest cut))) s }

name_spells : (source : List ℕ) (f : Found) → name_at source ≡ Some f → IsSpelled source f
name_spells source f e = let s = name_sound source f e in
    of_prefix source s.0.prefix f s.0.cut s.1
    (subst (λ (x : TokenKind). Spells s.0.prefix f.rest x (encode_utf8_all s.0.prefix)) (sym (s.2 ∙ ap (λ (l : List ℕ). kind_of (encode_utf8_all l)) (before_is source s.0.prefix f.rest s.0.cut))) (kinded s.0.prefix f.rest s.0.is))

punctuator_spells : (n : ℕ) (source : List ℕ) (f : Found) → punctuator_of n source ≡ Some f → IsSpelled source f
punctuator_spells n source f e = let s = punctuator_sound n source f e in
    of_prefix source s.0.prefix f s.0.cut s.1 (subst (λ (x : TokenKind). Spells s.0.prefix f.rest x (encode_utf8_all s.0.prefix)) (sym s.2) (punctuator s.0.is))

abbrev numbered : List ℕ → List ℕ → Found
numbered source rest = record { kind = variant.Numeral; value = encode_utf8_all (before source rest); rest = rest }

number_spells : (source : List ℕ) (f : Found) → number_at source ≡ Some f → IsSpelled source f
unfolding number_at
number_spells source f e = let b = bind_ok (r.number source) (λ x. Some (numbered source x)) f e in let i = number_is source b.0 b.1 in
    subst (IsSpelled source) (some_is (numbered source b.0) f b.2) (of_prefix source i.prefix (numbered source b.0) i.cut refl (number i.is i.may))

string_spells : (n : ℕ) (source : List ℕ) (f : Found) → string_at n source ≡ Some f → IsSpelled source f
string_spells n source f e = let i = string_is n source f e in let c = string_body_cut i.quote i.inner i.inside f.rest i.is in
    record {
      prefix = i.quote ∷ c.0;
      cut = i.cut ∙ ap (λ (l : List ℕ). i.quote ∷ l) c.1;
      spells = subst (λ (x : TokenKind). Spells (i.quote ∷ c.0) f.rest x f.value) (sym i.kind)
          (subst (Spells (i.quote ∷ c.0) f.rest variant.Text) (sym i.value_is) (string_literal i.quote i.inner i.inside i.is_quote_is (ap (λ (l : List ℕ). i.quote ∷ l) (sym c.1)) i.is));
    }

one_of : (a b : Option Found) (f : Found) → longer a b ≡ Some f → (a ≡ Some f) ⊎ (b ≡ Some f)
unfolding longer
one_of None b f e = inr e
one_of (Some x) None f e = inl e
one_of (Some x) (Some y) f e = elim (decided (nat_le (length x.rest) (length y.rest))) [ inl on ↦ inl (rw on at e) | inr off ↦ inr (rw off at e) ]

longest_spells : (n : ℕ) (source : List ℕ) (f : Found) → longest_at n source ≡ Some f → IsSpelled source f
unfolding longest_at
longest_spells n source f e = elim (one_of _ _ f e) [
  | inl a ↦ name_spells source f a
  | inr a ↦ elim (one_of _ _ f a) [
    | inl b ↦ number_spells source f b
    | inr b ↦ elim (one_of _ _ f b) [ inl c ↦ string_spells n source f c | inr c ↦ punctuator_spells 4 source f c ]
  ]
]

-- `<!--`, by test and by definition
four_are : (a b c d p q r s : ℕ) (rest : List ℕ) → a ≡ p → b ≡ q → c ≡ r → d ≡ s → a ∷ b ∷ c ∷ d ∷ rest ≡ p ∷ q ∷ r ∷ s ∷ rest
four_are a b c d p q r s rest w x y z = cc

html_is : (text : List ℕ) → begins_html_comment text ≡ true → BeginsHtmlComment text
unfolding begins_html_comment
html_is [] e = absurd cc
html_is (a ∷ []) e = absurd cc
html_is (a ∷ b ∷ []) e = absurd cc
html_is (a ∷ b ∷ c ∷ []) e = absurd cc
html_is (a ∷ b ∷ c ∷ d ∷ rest) e =
    let x = both_true ((a == 60) && (b == 33)) ((c == 45) && (d == 45)) e in
    let y = both_true (a == 60) (b == 33) x.0 in
    let z = both_true (c == 45) (d == 45) x.1 in
    (rest, four_are a b c d 60 33 45 45 rest (eqb-true a 60 y.0) (eqb-true b 33 y.1) (eqb-true c 45 z.0) (eqb-true d 45 z.1))

html_begins : (text : List ℕ) → BeginsHtmlComment text → begins_html_comment text ≡ true
unfolding begins_html_comment
html_begins text h = rw h.1 refl

not_html : (text : List ℕ) → (BeginsHtmlComment text → ⊥) → begins_html_comment text ≡ false
not_html text f = elim (decided (begins_html_comment text)) [ inl on ↦ absurd (f (html_is text on)) | inr off ↦ off ]

-- no `<!--` stands where a token is read, and it is the longest
apart_from_html : (n : ℕ) (source : List ℕ) (f : Found) → token_at n source ≡ Some f → (begins_html_comment source ≡ false) × (longest_at n source ≡ Some f)
unfolding token_at
apart_from_html n source f e = unguarded (begins_html_comment source) (longest_at n source) f e

longest_read : (n : ℕ) (source : List ℕ) (f : Found) → begins_html_comment source ≡ false → longest_at n source ≡ Some f → token_at n source ≡ Some f
unfolding token_at
longest_read n source f h e = rw h e

pub token_spells : (n : ℕ) (source : List ℕ) (f : Found) → token_at n source ≡ Some f → IsSpelled source f
token_spells n source f e = let x = apart_from_html n source f e in longest_spells n source f x.1

-- what is spelled is no longer than what is read
abbrev ReadsTo : Option Found → ℕ → Type 0
ReadsTo o m = (f : Found) × (o ≡ Some f) × (length f.rest ≤ m)

left : (a b : Option Found) (m : ℕ) → ReadsTo a m → ReadsTo (longer a b) m
unfolding longer
left None b m h = absurd (let e = h.1 in cc)
left (Some x) None m h = h
left (Some x) (Some y) m h = let e : x ≡ h.0 = some_is x h.0 h.1 in elim (decided (nat_le (length x.rest) (length y.rest))) [
  | inl on ↦ rw on h
  | inr off ↦ rw off (y, refl, (let l = leb-false (length x.rest) (length y.rest) off in omega (arith, ap (λ (f : Found). length f.rest) e)))
]

right : (a b : Option Found) (m : ℕ) → ReadsTo b m → ReadsTo (longer a b) m
unfolding longer
right None b m h = h
right (Some x) None m h = absurd (let e = h.1 in cc)
right (Some x) (Some y) m h = let e : y ≡ h.0 = some_is y h.0 h.1 in elim (decided (nat_le (length x.rest) (length y.rest))) [
  | inl on ↦ rw on (x, refl, (let l = leb-true (length x.rest) (length y.rest) on in omega (arith, ap (λ (f : Found). length f.rest) e)))
  | inr off ↦ rw off h
]

pub short_punctuators : (x : List ℕ) → Contains punctuators x → (0 < length x) × (length x ≤ 4)
short_punctuators x c =
    let t = All-contains (λ m. (nat_le 1 (length m) && nat_le (length m) 4) ≡ true) punctuators x (AllPass-from_list_all (λ m. nat_le 1 (length m) && nat_le (length m) 4) punctuators refl) c in
    let b = both_true (nat_le 1 (length x)) (nat_le (length x) 4) t in (leb-true 1 (length x) b.0, leb-true (length x) 4 b.1)

pub token_reads : (n : ℕ) (prefix rest : List ℕ) (kind : TokenKind) (value : List ℕ) → Spells prefix rest kind value → length (prefix ++ rest) ≤ n → ReadsTo (longest_at n (prefix ++ rest)) (length rest)
unfolding longest_at number_at
token_reads n prefix rest kind value (name i z) h = left _ _ _ (name_most prefix rest i)
token_reads n prefix rest kind value (reserved_word i z) h = left _ _ _ (name_most prefix rest i)
token_reads n prefix rest kind value (number {plain} i z) h = right _ _ _ (left _ _ _ (numbered (prefix ++ rest) rest, rw (number-append plain prefix rest i z) refl, omega arith))
token_reads n prefix rest kind value (string_literal quote inner inside q cut b) h = right _ _ _ (right _ _ _ (left _ _ _ (record { kind = variant.Text; value = encode_utf8_all inside; rest = rest }, string_reads n quote inner inside rest (prefix ++ rest) q cut b h, omega arith)))
token_reads n prefix rest kind value (punctuator c) h = let s = short_punctuators prefix c in right _ _ _ (right _ _ _ (right _ _ _ (punctuator_goes 4 prefix rest c s.0 s.1)))

-- one prefix has one spelling
abbrev One : TokenKind → List ℕ → TokenKind → List ℕ → Type 0
One a x b y = (a ≡ b) × (x ≡ y)

apart : (prefix : List ℕ) (m n : ℕ) → class_of prefix ≡ m → class_of prefix ≡ n → (m == n) ≡ false → ⊥
apart prefix m n p q ne = contradict (eq-eqb m n (sym p ∙ q)) ne

quote_first : (quote : ℕ) (inner prefix rest all : List ℕ) → is_quote quote ≡ true → prefix ++ rest ≡ quote ∷ inner → IsStringBody quote inner all rest → class_of prefix ≡ 1
quote_first quote inner [] rest all q cut b = let c = string_body_cut quote inner all rest b in absurd (omega (arith, ap length cut, ap length c.1, length-append c.0 rest))
quote_first quote inner (c ∷ cs) rest all q cut b = let e : c ≡ quote = cc in quote_class c cs (rw e q)

head_is : (a b : ℕ) (i j : List ℕ) → a ∷ i ≡ b ∷ j → a ≡ b
head_is a b i j e = cc

tail_is : (a b : ℕ) (i j : List ℕ) → a ∷ i ≡ b ∷ j → i ≡ j
tail_is a b i j e = cc

reads_one : (prefix rest v w : List ℕ) (a b : ℕ) (i j : List ℕ) → is_quote a ≡ true → prefix ++ rest ≡ a ∷ i → IsStringBody a i v rest → is_quote b ≡ true → prefix ++ rest ≡ b ∷ j → IsStringBody b j w rest → v ≡ w
reads_one prefix rest v w a b i j p e x q f y =
    let s = string_body_reads (length i) a [] i v rest p x (omega arith) in
    let same : a ≡ b = head_is a b i j (sym e ∙ f) in
    let tails : i ≡ j = tail_is a b i j (sym e ∙ f) in
    let t = string_body_reads (length i) a [] i w rest p (subst (λ (l : List ℕ). IsStringBody a l w rest) (sym tails) (subst (λ (c : ℕ). IsStringBody c j w rest) (sym same) y)) (omega arith) in
    ap (λ (z : Part). z.value) (some_is _ _ (sym s ∙ t))

pub one_spelling : (prefix rest : List ℕ) (a b : TokenKind) (v w : List ℕ) → Spells prefix rest a v → Spells prefix rest b w → One a v b w
one_spelling prefix rest a b v w (name i x) (name j y) = (refl, refl)
one_spelling prefix rest a b v w (name i x) (reserved_word j y) = absurd (x y)
one_spelling prefix rest a b v w (name i x) (number j y) = absurd (apart prefix 0 2 (name_class prefix i) (number_class _ prefix j) refl)
one_spelling prefix rest a b v w (name i x) (string_literal q inner u o e y) = absurd (apart prefix 0 1 (name_class prefix i) (quote_first q inner prefix rest u o e y) refl)
one_spelling prefix rest a b v w (name i x) (punctuator y) = absurd (apart prefix 0 3 (name_class prefix i) (punctuator_class prefix y) refl)
one_spelling prefix rest a b v w (reserved_word i x) (name j y) = absurd (y x)
one_spelling prefix rest a b v w (reserved_word i x) (reserved_word j y) = (refl, refl)
one_spelling prefix rest a b v w (reserved_word i x) (number j y) = absurd (apart prefix 0 2 (name_class prefix i) (number_class _ prefix j) refl)
one_spelling prefix rest a b v w (reserved_word i x) (string_literal q inner u o e y) = absurd (apart prefix 0 1 (name_class prefix i) (quote_first q inner prefix rest u o e y) refl)
one_spelling prefix rest a b v w (reserved_word i x) (punctuator y) = absurd (apart prefix 0 3 (name_class prefix i) (punctuator_class prefix y) refl)
one_spelling prefix rest a b v w (number i x) (name j y) = absurd (apart prefix 2 0 (number_class _ prefix i) (name_class prefix j) refl)
one_spelling prefix rest a b v w (number i x) (reserved_word j y) = absurd (apart prefix 2 0 (number_class _ prefix i) (name_class prefix j) refl)
one_spelling prefix rest a b v w (number i x) (number j y) = (refl, refl)
one_spelling prefix rest a b v w (number i x) (string_literal q inner u o e y) = absurd (apart prefix 2 1 (number_class _ prefix i) (quote_first q inner prefix rest u o e y) refl)
one_spelling prefix rest a b v w (number i x) (punctuator y) = absurd (apart prefix 2 3 (number_class _ prefix i) (punctuator_class prefix y) refl)
one_spelling prefix rest a b v w (string_literal q inner u o e x) (name j y) = absurd (apart prefix 1 0 (quote_first q inner prefix rest u o e x) (name_class prefix j) refl)
one_spelling prefix rest a b v w (string_literal q inner u o e x) (reserved_word j y) = absurd (apart prefix 1 0 (quote_first q inner prefix rest u o e x) (name_class prefix j) refl)
one_spelling prefix rest a b v w (string_literal q inner u o e x) (number j y) = absurd (apart prefix 1 2 (quote_first q inner prefix rest u o e x) (number_class _ prefix j) refl)
one_spelling prefix rest a b v w (string_literal q inner u o e x) (string_literal p after t m f y) = (refl, ap encode_utf8_all (reads_one prefix rest u t q p inner after o e x m f y))
one_spelling prefix rest a b v w (string_literal q inner u o e x) (punctuator y) = absurd (apart prefix 1 3 (quote_first q inner prefix rest u o e x) (punctuator_class prefix y) refl)
one_spelling prefix rest a b v w (punctuator x) (name j y) = absurd (apart prefix 3 0 (punctuator_class prefix x) (name_class prefix j) refl)
one_spelling prefix rest a b v w (punctuator x) (reserved_word j y) = absurd (apart prefix 3 0 (punctuator_class prefix x) (name_class prefix j) refl)
one_spelling prefix rest a b v w (punctuator x) (number j y) = absurd (apart prefix 3 2 (punctuator_class prefix x) (number_class _ prefix j) refl)
one_spelling prefix rest a b v w (punctuator x) (string_literal q inner u o e y) = absurd (apart prefix 3 1 (punctuator_class prefix x) (quote_first q inner prefix rest u o e y) refl)
one_spelling prefix rest a b v w (punctuator x) (punctuator y) = (refl, refl)

-- what is read is the longest
pub token_is : (n : ℕ) (source : List ℕ) (f : Found) → length source ≤ n → token_at n source ≡ Some f → (prefix : List ℕ) × IsToken source prefix f.rest f.kind f.value
token_is n source f h e = let x = apart_from_html n source f e in let s = token_spells n source f e in (
  s.prefix,
  record {
    no_html = λ b. contradict (html_begins source b) x.0;
    cut = s.cut;
    spells = s.spells;
    longest = λ other after kind value cut spells.
        (let r = token_reads n other after kind value spells (omega (arith, ap length cut)) in
        let same : f ≡ r.0 = some_is f r.0 (sym x.1 ∙ (ap (longest_at n) cut ∙ r.1)) in
        omega (arith, ap length cut, ap length s.cut, length-append other after, length-append s.prefix f.rest, ap (λ (x : Found). length x.rest) same));
  },
)

abbrev pub found : TokenKind → List ℕ → List ℕ → Found
found kind value rest = record { kind = kind; value = value; rest = rest }

three : (f : Found) (kind : TokenKind) (value rest : List ℕ) → f.kind ≡ kind → f.value ≡ value → f.rest ≡ rest → f ≡ found kind value rest
three f kind value rest p q t = ap (λ (x : TokenKind). found x f.value f.rest) p ∙ (ap (λ (x : List ℕ). found kind x f.rest) q ∙ ap (λ (x : List ℕ). found kind value x) t)

pub token_whole : (n : ℕ) (source prefix rest : List ℕ) (kind : TokenKind) (value : List ℕ) → length source ≤ n → IsToken source prefix rest kind value → token_at n source ≡ Some (found kind value rest)
token_whole n source prefix rest kind value h t =
    let r = token_reads n prefix rest kind value t.spells (omega (arith, ap length t.cut)) in
    let e : longest_at n source ≡ Some r.0 = ap (longest_at n) t.cut ∙ r.1 in
    let s = longest_spells n source r.0 e in
    let low = t.longest s.prefix r.0.rest r.0.kind r.0.value s.cut s.spells in
    let same : length s.prefix ≡ length prefix = omega (arith, ap length t.cut, ap length s.cut, length-append prefix rest, length-append s.prefix r.0.rest) in
    let prefixes : s.prefix ≡ prefix = sym (take_at s.prefix r.0.rest (length s.prefix) refl) ∙ (ap (take (length s.prefix)) (sym s.cut ∙ t.cut) ∙ take_at prefix rest (length s.prefix) (sym same)) in
    let rests : r.0.rest ≡ rest = sym (drop_at s.prefix r.0.rest (length s.prefix) refl) ∙ (ap (drop (length s.prefix)) (sym s.cut ∙ t.cut) ∙ drop_at prefix rest (length s.prefix) (sym same)) in
    let one = one_spelling prefix rest r.0.kind kind r.0.value value (subst (λ (l : List ℕ). Spells prefix l r.0.kind r.0.value) rests (subst (λ (l : List ℕ). Spells l r.0.rest r.0.kind r.0.value) prefixes s.spells)) t.spells in
    longest_read n source (found kind value rest) (not_html source t.no_html) (e ∙ ap Some (three r.0 kind value rest one.0 one.1 rests))

pub no_token : (n : ℕ) (source : List ℕ) → length source ≤ n → token_at n source ≡ None → BeginsToken source → ⊥
no_token n source h e b =
    let q : token_at n source ≡ Some (found b.2 b.3 b.1) = token_whole n source b.0 b.1 b.2 b.3 h b.4 in cc
