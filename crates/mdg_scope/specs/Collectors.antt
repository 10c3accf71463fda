-- What the parts of a form add to the occurrences of a file. All parentheses are looked through.
use Rattle.std.specs.Prelude.{ℕ, ◌+◌, Bool, true, false, List, [], ◌∷◌, ◌++◌, Option, Some, None, unwrap_or, slice_get, if◌then◌else◌}
use Rattle.mdg_tree.specs.declared.operator.UnaryOperator.{UnaryOperator}
use Rattle.mdg_tree.specs.declared.operator.UnaryOperator.TheVariants as u
use Rattle.mdg_scope.specs.declared.occurrence.Occurrences.{Occurrences}
use Rattle.mdg_scope.specs.declared.occurrence.Context.{Context}
use Rattle.mdg_scope.specs.declared.occurrence.Use.{Use}
use Rattle.mdg_scope.specs.declared.occurrence.Use.TheVariants as v
use Rattle.mdg_scope.specs.declared.occurrence.OccurrenceKind.{OccurrenceKind}
use Rattle.mdg_scope.specs.declared.occurrence.OccurrenceKind.TheVariants as r
use Rattle.mdg_scope.specs.Names.{has_name, add_name}

-- what a part adds to the occurrences before it, by where it stands
abbrev pub Collector : Type 0
Collector = Context → Occurrences → Occurrences

-- one more occurrence
abbrev pub add : OccurrenceKind → ℕ → ℕ → List ℕ → Occurrences → Occurrences
add kind offset within name c = record { all = c.all ++ record { kind = kind; offset = offset; within = within; name = name } ∷ []; begun = c.begun }

abbrev pub silent : Collector
silent p c = c

-- What an expression adds, by how it is used, and the name or the string that it is.
pub record ExprCollector : Type 0 where
  pub used : Use → Collector
  pub name : Option (List ℕ)
  pub text : Option (List ℕ)

-- an expression that is neither a name nor a string adds the same however it is used
abbrev pub plain : Collector → ExprCollector
plain w = record { used = λ usage. w; name = None; text = None }

abbrev pub read : ExprCollector → Collector
read a = a.used v.Read

abbrev pub assigned : ExprCollector → Collector
assigned a = a.used v.Assigned

-- what a name is, by how it is used
abbrev pub use_kind : Use → ℕ → OccurrenceKind
use_kind v.Read line = r.Read
use_kind v.Assigned line = r.Assigned
use_kind v.TypeOperand line = r.TypeOperand
use_kind (v.Called text) line = r.Called (record { line = line; text = text })

abbrev pub read_all : List ExprCollector → Collector
read_all [] p c = c
read_all (a ∷ rest) p c = read_all rest p (read a p c)

abbrev pub collect_all : List Collector → Collector
collect_all [] p c = c
collect_all (w ∷ rest) p c = collect_all rest p (w p c)

-- a part that may be absent
abbrev pub optional : Option ExprCollector → Collector
optional None p c = c
optional (Some a) p c = read a p c

-- the text that is the only argument
abbrev pub only_text : List ExprCollector → Option (List ℕ)
only_text [] = None
only_text (a ∷ []) = a.text
only_text (a ∷ b ∷ rest) = None

-- how the name is used that is called with these arguments
abbrev pub callee_use : Option (List ℕ) → Use
callee_use None = v.Read
callee_use (Some text) = v.Called text

abbrev pub call_occurrences : ExprCollector → List ExprCollector → Collector
call_occurrences f args p c = read_all args p (f.used (callee_use (only_text args)) p c)

-- `delete` of a name
abbrev pub deleted_occurrence : Option (List ℕ) → ℕ → Collector
deleted_occurrence None offset p c = c
deleted_occurrence (Some name) offset p c = add r.Deleted offset p.function name c

-- `new` of a name, or of something else
abbrev pub constructed_occurrence : Option (List ℕ) → ℕ → Collector
constructed_occurrence None offset p c = add r.OtherConstructed offset p.function [] c
constructed_occurrence (Some name) offset p c = add r.Constructed offset p.function name c

-- what an operator adds for an operand with this name, and how it uses the operand
abbrev pub operator_occurrence : UnaryOperator → Option (List ℕ) → ℕ → Collector
operator_occurrence u.Delete name offset p c = deleted_occurrence name offset p c
operator_occurrence u.Void name offset p c = c
operator_occurrence u.TypeOf name offset p c = c
operator_occurrence u.Plus name offset p c = c
operator_occurrence u.Minus name offset p c = c
operator_occurrence u.BitNot name offset p c = c
operator_occurrence u.Not name offset p c = c

abbrev pub operand_use : UnaryOperator → Use
operand_use u.Delete = v.Read
operand_use u.Void = v.Read
operand_use u.TypeOf = v.TypeOperand
operand_use u.Plus = v.Read
operand_use u.Minus = v.Read
operand_use u.BitNot = v.Read
operand_use u.Not = v.Read

-- a property: its key, and what its value adds
pub record PropertyCollector : Type 0 where
  pub offset : ℕ
  pub key : List ℕ
  pub value : Collector

-- each key that stands among those before it
abbrev pub repeated_keys : ℕ → List (List ℕ) → List PropertyCollector → Occurrences → Occurrences
repeated_keys within seen [] c = c
repeated_keys within seen (x ∷ xs) c = repeated_keys within (add_name seen x.key) xs (if has_name seen x.key then add r.RepeatedKey x.offset within x.key c else c)

abbrev pub all_values : List PropertyCollector → Collector
all_values [] p c = c
all_values (x ∷ xs) p c = all_values xs p (x.value p c)

abbrev pub object_occurrences : List PropertyCollector → Collector
object_occurrences xs p c = all_values xs p (repeated_keys p.function [] xs c)

-- the offset with this number, and the other one where there is none
abbrev pub offset_at : List ℕ → ℕ → ℕ → ℕ
offset_at offsets other index = unwrap_or (slice_get offsets index) other

abbrev pub parameter_kind : Bool → OccurrenceKind
parameter_kind true = r.RepeatedParameter
parameter_kind false = r.Parameter

-- parameters from this number on, after those that were seen
abbrev pub parameter_occurrences : List ℕ → ℕ → ℕ → List (List ℕ) → ℕ → List (List ℕ) → Occurrences → Occurrences
parameter_occurrences offsets other within seen index [] c = c
parameter_occurrences offsets other within seen index (x ∷ xs) c =
    parameter_occurrences offsets other within (add_name seen x) (index + 1) xs (add (parameter_kind (has_name seen x)) (offset_at offsets other index) within x c)

-- a function begins; it takes the next number
abbrev pub begin_occurrence : Option (List ℕ) → List (List ℕ) → ℕ → ℕ → ℕ → Occurrences → Occurrences
begin_occurrence name parameters line offset within c = record {
  all = c.all ++ record { kind = r.Begins (record { number = c.begun + 1; name = name; parameters = parameters; line = line }); offset = offset; within = within; name = [] } ∷ [];
  begun = c.begun + 1;
}

-- a function with its parameters
abbrev pub head_occurrences : Option (List ℕ) → List (List ℕ) → List ℕ → ℕ → ℕ → ℕ → Occurrences → Occurrences
head_occurrences name parameters offsets line offset within c =
    parameter_occurrences offsets offset (c.begun + 1) [] 0 parameters (begin_occurrence name parameters line offset within c)

-- its name, where it has one
abbrev pub name_occurrence : OccurrenceKind → Option (List ℕ) → ℕ → ℕ → Occurrences → Occurrences
name_occurrence kind None offset within c = c
name_occurrence kind (Some name) offset within c = add kind offset within name c

abbrev pub inside : ℕ → Context
inside number = record { function = number; in_loop = false }

abbrev pub within_loop : Context → Context
within_loop p = record { function = p.function; in_loop = true }

-- what a function adds, as an expression and as a declaration
pub record FunctionCollector : Type 0 where
  pub expressed : Collector
  pub declared : Collector

abbrev pub expressed_occurrences : Option (List ℕ) → ℕ → List (List ℕ) → List ℕ → List Collector → ℕ → ℕ → Collector
expressed_occurrences name name_offset parameters offsets body line offset p c =
    collect_all body (inside (c.begun + 1)) (name_occurrence r.Own name name_offset (c.begun + 1) (head_occurrences name parameters offsets line offset p.function c))

abbrev pub declared_occurrences : Option (List ℕ) → ℕ → List (List ℕ) → List ℕ → List Collector → ℕ → ℕ → Collector
declared_occurrences name name_offset parameters offsets body line offset p c =
    collect_all body (inside (c.begun + 1)) (head_occurrences name parameters offsets line offset p.function (name_occurrence r.Declared name name_offset p.function c))

abbrev pub jump_occurrences : ℕ → Collector
jump_occurrences offset p c = if p.in_loop then c else add r.LooseJump offset p.function [] c
