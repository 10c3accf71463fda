-- The words of the command line: which are in form, and what they ask for.
use Rattle.std.specs.Prelude.{◌≡◌, ℕ, zero, suc, ◌==◌, Bool, true, false, if◌then◌else◌, List, [], ◌∷◌, length, codes, map, nat_lt, not, ◌||◌, Option, Some, None, Result, Ok, Err, String, bytes_eq, ◌++◌}
use Rattle.std.specs.Fmt.{decimal}
use Rattle.std.specs.List.{filter_map, position_or_len, before_first, after_first}
use Rattle.std.specs.String.{string_bytes}
use Rattle.std.specs.declared.alloc.Global.{Global}
use Rattle.mdg_scan.specs.declared.argument.Argument.{Argument}
use Rattle.mdg_scan.specs.declared.argument.Argument.TheVariants as argument
use Rattle.mdg_scan.specs.declared.argument.Valued.{Valued}
use Rattle.mdg_scan.specs.declared.argument.Valued.TheVariants as valued
use Rattle.mdg_scan.specs.declared.argument.Taken.{Taken}
use Rattle.mdg_scan.specs.declared.argument.Taken.TheVariants.{Whole, Open, Wrong}
use Rattle.mdg_scan.specs.declared.argument.Given.{Given}
use Rattle.mdg_scan.specs.declared.command_line.Command.{Command}
use Rattle.mdg_scan.specs.declared.command_line.Command.TheVariants.{Scan, Replay, Sample}
use Rattle.mdg_scan.specs.declared.command_line.WordsRefusal.{WordsRefusal}
use Rattle.mdg_scan.specs.declared.command_line.WordsRefusal.TheVariants.{Usage, NoMemory}

-- the words as texts
abbrev pub texts_of : List (String Global) → List (List ℕ)
texts_of words = map string_bytes words

-- ---- one word

-- the number from 1 to the limit that the text spells, without leading zeros
unfoldable pub number_up_to : ℕ → List ℕ → Option ℕ
number_up_to zero text = None
number_up_to (suc n) text = if bytes_eq text (decimal (suc n)) then Some (suc n) else number_up_to n text

-- a file's name: it isn't empty, and doesn't begin with `-` (45)
abbrev pub is_value : List ℕ → Bool
is_value [] = false
is_value (first ∷ rest) = not (first == 45)

abbrev pub workers_by : Option ℕ → Taken
workers_by None = Wrong
workers_by (Some n) = Whole (argument.Workers n)

-- the option with this value
abbrev pub with_value : Valued → List ℕ → Taken
with_value valued.Workers value = workers_by (number_up_to 64 value)
with_value valued.Profile value = if is_value value then Whole (argument.Profile value) else Wrong

-- a word that is no option
abbrev pub plain : List ℕ → Taken
plain word = if is_value word then Whole (argument.Plain word) else Wrong

-- a word without `=`
abbrev pub alone : List ℕ → Taken
alone word =
    if bytes_eq word (codes "--json") then Whole argument.Json
    else if bytes_eq word (codes "--workers") then Open valued.Workers
    else if bytes_eq word (codes "--profile") then Open valued.Profile
    else plain word

-- a word with `=`, and what stands on its two sides
abbrev pub joined : List ℕ → List ℕ → List ℕ → Taken
joined word name value =
    if bytes_eq name (codes "--workers") then with_value valued.Workers value
    else if bytes_eq name (codes "--profile") then with_value valued.Profile value
    else plain word

-- the sign `=`
abbrev pub is_equals : ℕ → Bool
is_equals c = c == 61

-- a word where no value is due
abbrev pub begun : List ℕ → Taken
begun word =
    if nat_lt (position_or_len is_equals word) (length word)
    then joined word (before_first is_equals word) (after_first is_equals word)
    else alone word

-- a word, where it may be the value of the word before it
abbrev pub take_word : Option Valued → List ℕ → Taken
take_word None word = begun word
take_word (Some option) word = with_value option word

-- ---- all words after the command

abbrev pub prepended : List Argument → Option (List Argument) → Option (List Argument)
prepended arguments None = None
prepended arguments (Some rest) = Some (arguments ++ rest)

abbrev pub followed : Taken → (Option Valued → Option (List Argument)) → Option (List Argument)
followed (Whole argument) rest = prepended (argument ∷ []) (rest None)
followed (Open option) rest = rest (Some option)
followed Wrong rest = None

-- what the words are, where the first may be the value of the word before it
unfoldable pub arguments_of : Option Valued → List (List ℕ) → Option (List Argument)
arguments_of None [] = Some []
arguments_of (Some option) [] = None
arguments_of waiting (word ∷ words) = followed (take_word waiting word) (λ next. arguments_of next words)

-- ---- each at most once

abbrev pub workers_in : Argument → Option ℕ
workers_in (argument.Workers n) = Some n
workers_in _ = None

abbrev pub json_in : Argument → Option Unit
json_in argument.Json = Some tt
json_in _ = None

abbrev pub profile_in : Argument → Option (List ℕ)
profile_in (argument.Profile file) = Some file
profile_in _ = None

abbrev pub plain_in : Argument → Option (List ℕ)
plain_in (argument.Plain word) = Some word
plain_in _ = None

abbrev pub at_most_one : {A : Type 0} → List A → Option (Option A)
at_most_one [] = Some None
at_most_one (one ∷ []) = Some (Some one)
at_most_one (one ∷ other ∷ more) = None

infixl 10 ◌>>=◌
abbrev pub ◌>>=◌ : {A B : Type 0} → Option A → (A → Option B) → Option B
None >>= next = None
(Some x) >>= next = next x

abbrev pub is_there : {A : Type 0} → Option A → Bool
is_there None = false
is_there (Some x) = true

abbrev pub given_by : Option (Option ℕ) → Option (Option Unit) → Option (Option (List ℕ)) → Option (Option (List ℕ)) → Option Given
given_by workers json profile plain = do
  w ← workers
  j ← json
  p ← profile
  f ← plain
  Some (record { workers = w; json = is_there j; profile = p; plain = f })

-- what is given by arguments of which no two are the same
unfoldable pub given : List Argument → Option Given
given arguments = given_by (at_most_one (filter_map workers_in arguments)) (at_most_one (filter_map json_in arguments)) (at_most_one (filter_map profile_in arguments)) (at_most_one (filter_map plain_in arguments))

-- whether such a argument is given already
abbrev pub is_given : Given → Argument → Bool
is_given g (argument.Workers n) = is_there g.workers
is_given g argument.Json = g.json
is_given g (argument.Profile file) = is_there g.profile
is_given g (argument.Plain word) = is_there g.plain

abbrev pub with_argument : Given → Argument → Given
with_argument g (argument.Workers n) = record { workers = Some n; json = g.json; profile = g.profile; plain = g.plain }
with_argument g argument.Json = record { workers = g.workers; json = true; profile = g.profile; plain = g.plain }
with_argument g (argument.Profile file) = record { workers = g.workers; json = g.json; profile = Some file; plain = g.plain }
with_argument g (argument.Plain word) = record { workers = g.workers; json = g.json; profile = g.profile; plain = Some word }

-- ---- the three commands

abbrev pub or_four : Option ℕ → ℕ
or_four None = 4
or_four (Some n) = n

abbrev pub scan_of : ℕ → Bool → Option (List ℕ) → Option (List ℕ) → Option Command
scan_of workers json profile None = Some (Scan workers json profile)
scan_of workers json profile (Some word) = None

-- all options, and no word
abbrev pub scan : Given → Option Command
scan g = scan_of (or_four g.workers) g.json g.profile g.plain

abbrev pub replay_of : Option (List ℕ) → Option Command
replay_of None = None
replay_of (Some file) = Some (Replay file)

-- no option, and one word
abbrev pub replay : Given → Option Command
replay g = if is_there g.workers || g.json || is_there g.profile then None else replay_of g.plain

abbrev pub sample_by : ℕ → Option ℕ → Option Command
sample_by workers None = None
sample_by workers (Some n) = Some (Sample n workers)

abbrev pub sample_of : ℕ → Option (List ℕ) → Option Command
sample_of workers None = None
sample_of workers (Some number) = sample_by workers (number_up_to 200 number)

-- the option for workers, and one word, a number
abbrev pub sample : Given → Option Command
sample g = if g.json || is_there g.profile then None else sample_of (or_four g.workers) g.plain

abbrev pub named : List ℕ → Given → Option Command
named word g =
    if bytes_eq word (codes "scan") then scan g
    else if bytes_eq word (codes "replay") then replay g
    else if bytes_eq word (codes "sample") then sample g
    else None

-- what the words ask for, where they are in form
unfoldable pub command_of : List (List ℕ) → Option Command
command_of [] = None
command_of (word ∷ words) = do
  arguments ← arguments_of None words
  g ← given arguments
  named word g

-- what the words give, but for want of memory
abbrev pub Answers : Option Command → Result Command WordsRefusal → Type 0
Answers wanted (Ok command) = wanted ≡ Some command
Answers wanted (Err Usage) = wanted ≡ None
Answers wanted (Err NoMemory) = Unit {0}

abbrev pub AreArguments : Option (List Argument) → Result (List Argument) WordsRefusal → Type 0
AreArguments wanted (Ok arguments) = wanted ≡ Some arguments
AreArguments wanted (Err Usage) = wanted ≡ None
AreArguments wanted (Err NoMemory) = Unit {0}

abbrev pub IsGiven : Option Given → Result Given WordsRefusal → Type 0
IsGiven wanted (Ok given) = wanted ≡ Some given
IsGiven wanted (Err Usage) = wanted ≡ None
IsGiven wanted (Err NoMemory) = Unit {0}
