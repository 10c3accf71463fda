-- Parts of a set of facts: with one more fact, on shelves, and by groups of rows.
use Rattle.std.proofs.Common.{◌≡◌, ℕ, ◌<◌, ◌≤◌, ◌+◌, Bool, true, false, cond, List, [], ◌∷◌, ◌++◌, take, get_or, length, refl, ap, sym, ◌∙◌, subst, inl, inr, ◌↔◌, true≢false}
use Rattle.std.specs.Prelude.{Contains}
use Rattle.std.specs.Ordering.{eq_by_cmp}
use Rattle.std.proofs.lemmas.List.{take_more, take_all}
use Rattle.std.proofs.lemmas.List.Elements.{Contains-append_left, Contains-push, Contains-push_cases}
use Rattle.mdg_base.specs.declared.node_name.NodeName.{NodeName}
use Rattle.mdg_base.specs.declared.number.Column.{Column}
use Rattle.mdg_base.specs.declared.number.Local.{Local}
use Rattle.mdg_base.specs.declared.number.Site.{Site}
use Rattle.mdg_scan.specs.declared.first.fact.Fact.{Fact}
use Rattle.mdg_scan.specs.declared.first.fact.Row.{Row}
use Rattle.mdg_scan.specs.declared.first.fact.Row.TheVariants as row
use Rattle.mdg_scan.specs.Parts.{IsPart, IsFiled, IsLocalAt, IsFieldOf, Shelves, on_shelf, filed, row_cmp, first_row}
use Rattle.mdg_scan.proofs.RowOrder.{row_cmp-tied, row_cmp-itself}

-- one more fact that belongs to the part
pub IsPart-here : (P : Fact → Type 0) (facts part : List Fact) (f : Fact) → IsPart P facts part → P f → IsPart P (facts ++ f ∷ []) (part ++ f ∷ [])
IsPart-here P facts part f is holds g = (
  λ found. elim (Contains-push_cases part f g found) [
    | inl before ↦ let w = (is g).0 before in (Contains-append_left facts (f ∷ []) g w.0, w.1)
    | inr same ↦ (subst (λ x. Contains (facts ++ f ∷ []) x) same (Contains-push facts f), subst P same holds)
  ],
  λ w. elim (Contains-push_cases facts f g w.0) [
    | inl before ↦ Contains-append_left part (f ∷ []) g ((is g).1 (before, w.1))
    | inr same ↦ subst (λ x. Contains (part ++ f ∷ []) x) same (Contains-push part f)
  ],
)

-- one more fact that doesn't
pub IsPart-apart : (P : Fact → Type 0) (facts part : List Fact) (f : Fact) → IsPart P facts part → (P f → ⊥) → IsPart P (facts ++ f ∷ []) part
IsPart-apart P facts part f is fails g = (
  λ found. let w = (is g).0 found in (Contains-append_left facts (f ∷ []) g w.0, w.1),
  λ w. elim (Contains-push_cases facts f g w.0) [
    | inl before ↦ (is g).1 (before, w.1)
    | inr same ↦ absurd (fails (subst P (sym same) w.1))
  ],
)

-- the same at the next place of a list
pub IsPart-next : (P : Fact → Type 0) (xs part new : List Fact) (i : ℕ) (d : Fact) → i < length xs → IsPart P (take i xs) part → P (get_or xs i d) → new ≡ part ++ get_or xs i d ∷ [] → IsPart P (take (i + 1) xs) new
IsPart-next P xs part new i d inside is holds pushed =
    subst (λ (ys : List Fact). IsPart P (take (i + 1) xs) ys) (sym pushed)
    (subst (λ (ys : List Fact). IsPart P ys (part ++ get_or xs i d ∷ [])) (sym (take_more xs i d inside)) (IsPart-here P (take i xs) part (get_or xs i d) is holds))

pub IsPart-skip : (P : Fact → Type 0) (xs part new : List Fact) (i : ℕ) (d : Fact) → i < length xs → IsPart P (take i xs) part → (P (get_or xs i d) → ⊥) → new ≡ part → IsPart P (take (i + 1) xs) new
IsPart-skip P xs part new i d inside is fails kept =
    subst (λ (ys : List Fact). IsPart P (take (i + 1) xs) ys) (sym kept)
    (subst (λ (ys : List Fact). IsPart P ys part) (sym (take_more xs i d inside)) (IsPart-apart P (take i xs) part (get_or xs i d) is fails))

-- at the end of the list
pub IsPart-end : (P : Fact → Type 0) (xs part : List Fact) (i : ℕ) → length xs ≤ i → IsPart P (take i xs) part → IsPart P xs part
IsPart-end P xs part i past is = subst (λ (ys : List Fact). IsPart P ys part) (take_all i xs past) is

pub IsPart-same : (P Q : Fact → Type 0) (facts part : List Fact) → ((f : Fact) → P f ↔ Q f) → IsPart P facts part → IsPart Q facts part
IsPart-same P Q facts part both is f =
    (λ found. let w = (is f).0 found in (w.0, (both f).0 w.1), λ w. (is f).1 (w.0, (both f).1 w.1))

-- shelves with one more fact
pub IsFiled-filed : (key : Fact → Row) (facts : List Fact) (f : Fact) (old new : Shelves Row) → IsFiled key facts old → ((r : Row) → on_shelf row_cmp new r ≡ filed row_cmp old (key f) f r) → IsFiled key (facts ++ f ∷ []) new
IsFiled-filed key facts f old new before now r = by (eq_by_cmp row_cmp (key f) r) refl
  where
    by : (b : Bool) → eq_by_cmp row_cmp (key f) r ≡ b → IsPart (λ g. key g ≡ r) (facts ++ f ∷ []) (on_shelf row_cmp new r)
    by true here =
        let same : key f ≡ r = row_cmp-tied (key f) r here in
        let is : on_shelf row_cmp new r ≡ on_shelf row_cmp old r ++ f ∷ [] =
        now r ∙ ap (λ b. cond b (on_shelf row_cmp old (key f) ++ f ∷ []) (on_shelf row_cmp old r)) here ∙ ap (λ k. on_shelf row_cmp old k ++ f ∷ []) same in
        subst (λ xs. IsPart (λ g. key g ≡ r) (facts ++ f ∷ []) xs) (sym is) (IsPart-here (λ g. key g ≡ r) facts (on_shelf row_cmp old r) f (before r) same)
    by false there =
        let is : on_shelf row_cmp new r ≡ on_shelf row_cmp old r = now r ∙ ap (λ b. cond b (on_shelf row_cmp old (key f) ++ f ∷ []) (on_shelf row_cmp old r)) there in
        subst (λ xs. IsPart (λ g. key g ≡ r) (facts ++ f ∷ []) xs) (sym is)
        (IsPart-apart (λ g. key g ≡ r) facts (on_shelf row_cmp old r) f (before r)
        (λ same. true≢false (sym (subst (λ k. eq_by_cmp row_cmp (key f) k ≡ true) same (row_cmp-itself (key f))) ∙ there)))

local_group : (s : Site) (r : Row) → first_row r ≡ row.Loc s (record { 0 = 0 }) → (x : Local) × (r ≡ row.Loc s x)
local_group s (row.Loc t x) h = (x, ap (λ z. row.Loc z x) cc)
local_group s (row.Cell v) h = cc
local_group s (row.Field n q) h = cc
local_group s (row.Newer n) h = cc
local_group s (row.Dep n) h = cc
local_group s (row.Known t) h = cc
local_group s row.Exp h = cc
local_group s (row.IsFunction f) h = cc
local_group s (row.IsShared b) h = cc

field_group : (n : NodeName) (r : Row) → first_row r ≡ row.Field n (record { 0 = 0 }) → (q : Column) × (r ≡ row.Field n q)
field_group n (row.Loc t x) h = cc
field_group n (row.Cell v) h = cc
field_group n (row.Field m q) h = (q, ap (λ z. row.Field z q) cc)
field_group n (row.Newer m) h = cc
field_group n (row.Dep m) h = cc
field_group n (row.Known t) h = cc
field_group n row.Exp h = cc
field_group n (row.IsFunction f) h = cc
field_group n (row.IsShared b) h = cc

-- the group of the locals before a statement
pub IsLocalAt-group : (s : Site) (f : Fact) → (first_row f.row ≡ row.Loc s (record { 0 = 0 })) ↔ IsLocalAt s f
IsLocalAt-group s f = (local_group s f.row, λ w. ap first_row w.1)

-- the group of the properties of a node
pub IsFieldOf-group : (n : NodeName) (f : Fact) → (first_row f.row ≡ row.Field n (record { 0 = 0 })) ↔ IsFieldOf n f
IsFieldOf-group n f = (field_group n f.row, λ w. ap first_row w.1)
