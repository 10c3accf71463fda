-- How the effects of calls are put together.
use Rattle.std.proofs.Common.{◌≡◌, ℕ, ◌+◌, ◌-◌, ◌^◌, ◌<◌, ◌≤◌, length, refl, sym, ◌∙◌, ap, subst, inl, inr, arith}
use Rattle.std.specs.Prelude.{◌⊎◌, Option, Some, None, IfSome, Result, Ok, Err}
use Rattle.mdg_pack.specs.Reads.{Given}
use Rattle.mdg_pack.specs.ModuleResolution.{Progress, then_with}
use Rattle.mdg_pack.specs.Effects.{FolderView, Saw, GivesTold, IsCounted, Did, Refuses, RoseAt, UnlessMemory, RefusesUnlessMemory, Answers, Stays, failing_at}
use Rattle.mdg_pack.specs.declared.fault.PackFault.{PackFault}
use Rattle.mdg_pack.specs.declared.fault.PackFault.TheVariants as fault
use Rattle.mdg_pack.specs.declared.module_table.ModuleTable.{ModuleTable}
use Rattle.mdg_port.specs.Held.{Held}

-- ---- the folder

pub stays_then : (a b c : FolderView) → Stays a b → Stays b c → Stays a c
stays_then a b c one two = record { held = two.held ∙ one.held; faults = (let x = one.faults in let y = two.faults in omega arith) }

counted_same : (told : Option Held) (a b c : FolderView) (k m n : ℕ) → a.told ≡ told → b.told ≡ told → IsCounted a b k m → IsCounted b c m n → IsCounted a c k n
counted_same None a b c k m n s t one two = let P : Option Held → Type 0 = λ o. IfSome o (λ held. c.reads < 2 ^ 64 - 1 → (a.reads ≤ c.reads) × (c.reads + k ≡ a.reads + n)) in subst P (sym s) tt
counted_same (Some held) a b c k m n s t one two =
    let P : Option Held → Type 0 = λ o. IfSome o (λ held. c.reads < 2 ^ 64 - 1 → (a.reads ≤ c.reads) × (c.reads + k ≡ a.reads + n)) in
    let Q : Option Held → Type 0 = λ o. IfSome o (λ held. b.reads < 2 ^ 64 - 1 → (a.reads ≤ b.reads) × (b.reads + k ≡ a.reads + m)) in
    let R : Option Held → Type 0 = λ o. IfSome o (λ held. c.reads < 2 ^ 64 - 1 → (b.reads ≤ c.reads) × (c.reads + m ≡ b.reads + n)) in
    let first = subst Q s one in
    let second = subst R t two in
    subst P (sym s) (λ below.
    let later = second below in
    let under : b.reads < 2 ^ 64 - 1 = omega (arith, later.0) in
    let earlier = first under in
    (omega (arith, later.0, earlier.0), omega (arith, later.1, earlier.1)))

pub counted_then : (a b c : FolderView) (k m n : ℕ) → Stays a b → IsCounted a b k m → IsCounted b c m n → IsCounted a c k n
counted_then a b c k m n stays one two = counted_same a.told a b c k m n refl stays.held one two

pub counted_none : (a : FolderView) (k : ℕ) → IsCounted a a k k
counted_none a k = by a.told
  where
    by : (told : Option Held) → IfSome told (λ held. a.reads < 2 ^ 64 - 1 → (a.reads ≤ a.reads) × (a.reads + k ≡ a.reads + k))
    by None = tt
    by (Some held) = λ below. (omega arith, refl)

pub saw_before : (a b : FolderView) (table : ModuleTable) → Stays a b → Saw b.told table → Saw a.told table
saw_before a b table stays saw = subst (λ o. Saw o table) stays.held saw

pub saw_after : (a b : FolderView) (table : ModuleTable) → Stays a b → Saw a.told table → Saw b.told table
saw_after a b table stays saw = subst (λ o. Saw o table) (sym stays.held) saw

-- ---- refusals

-- what follows from the cause of a refusal holds unless memory was refused
pub unless_memory : (refusal : PackFault) (Cause : Type 0) → Cause → UnlessMemory refusal Cause
unless_memory (fault.FolderFailed path) Cause is = is
unless_memory fault.NoMemory Cause is = tt
unless_memory fault.BadManifest Cause is = is
unless_memory (fault.NoFile path) Cause is = is
unless_memory (fault.TooLong path) Cause is = is
unless_memory (fault.TooManyFiles count) Cause is = is
unless_memory (fault.Text path refusal line) Cause is = is
unless_memory (fault.Read path refusal line) Cause is = is
unless_memory (fault.Scope path refusal line) Cause is = is

pub or_memory : (refusal : PackFault) (Cause : Type 0) → UnlessMemory refusal Cause → (refusal ≡ fault.NoMemory) ⊎ Cause
or_memory (fault.FolderFailed path) Cause is = inr is
or_memory fault.NoMemory Cause is = inl refl
or_memory fault.BadManifest Cause is = inr is
or_memory (fault.NoFile path) Cause is = inr is
or_memory (fault.TooLong path) Cause is = inr is
or_memory (fault.TooManyFiles count) Cause is = inr is
or_memory (fault.Text path refusal line) Cause is = inr is
or_memory (fault.Read path refusal line) Cause is = inr is
or_memory (fault.Scope path refusal line) Cause is = inr is

pub for_memory : (refusal : PackFault) (Cause : Type 0) → refusal ≡ fault.NoMemory → UnlessMemory refusal Cause
for_memory refusal Cause is = subst (λ r. UnlessMemory r Cause) (sym is) tt

pub map_cause : (refusal : PackFault) (One Other : Type 0) → (One → Other) → UnlessMemory refusal One → UnlessMemory refusal Other
map_cause refusal One Other f is = by (or_memory refusal One is)
  where
    by : (refusal ≡ fault.NoMemory) ⊎ One → UnlessMemory refusal Other
    by (inl memory) = for_memory refusal Other memory
    by (inr one) = unless_memory refusal Other (f one)

pub rose_later : (refusal : PackFault) (a b c : FolderView) → Stays a b → RoseAt refusal b.faults c.faults → RoseAt refusal a.faults c.faults
rose_later (fault.FolderFailed path) a b c stays rose = let x = stays.faults in omega arith
rose_later fault.NoMemory a b c stays rose = tt
rose_later fault.BadManifest a b c stays rose = tt
rose_later (fault.NoFile path) a b c stays rose = tt
rose_later (fault.TooLong path) a b c stays rose = tt
rose_later (fault.TooManyFiles count) a b c stays rose = tt
rose_later (fault.Text path refusal line) a b c stays rose = tt
rose_later (fault.Read path refusal line) a b c stays rose = tt
rose_later (fault.Scope path refusal line) a b c stays rose = tt

module _ {A B : Type 0} where
  pub did_then : (run : Given → Progress A) (next : Given → A → ModuleTable → Progress B) (a b c : FolderView) (old mid new : ModuleTable) (value : A) (last : B) → Stays a b
      → Did run a b old mid value → Did (λ given. next given value mid) b c mid new last → Did (λ given. then_with (run given) (next given)) a c old new last
  did_then run next a b c old mid new value last stays one two = record {
    sound = two.sound;
    saw = saw_before a b new stays two.saw;
    is = λ given agrees. ap (λ step. then_with step (next given)) (one.is given (two.keeps given agrees)) ∙ two.is given agrees;
    keeps = λ given agrees. one.keeps given (two.keeps given agrees);
    longer = (let x = one.longer in let y = two.longer in omega arith);
    counted = counted_then a b c (length old.probes) (length mid.probes) (length new.probes) stays one.counted two.counted;
  }

  refuses_later : (run : Given → Progress A) (next : Given → A → ModuleTable → Progress B) (a b c : FolderView) (old mid : ModuleTable) (value : A) (refusal : PackFault) → Stays a b
      → Did run a b old mid value → Refuses (λ given. next given value mid) b c mid refusal → Refuses (λ given. then_with (run given) (next given)) a c old refusal
  refuses_later run next a b c old mid value refusal stays one two = record {
    given = two.given;
    short = two.short;
    asked = two.asked;
    told = subst (λ o. GivesTold o (failing_at refusal two.asked) two.given) stays.held two.told;
    agrees = one.keeps two.given two.agrees;
    is = ap (λ step. then_with step (next two.given)) (one.is two.given two.agrees) ∙ two.is;
    last = two.last;
    counted = counted_then a b c (length old.probes) (length mid.probes) (length two.asked) stays one.counted two.counted;
  }

  refuses_then : (run : Given → Progress A) (next : Given → A → ModuleTable → Progress B) (a b : FolderView) (old : ModuleTable) (refusal : PackFault)
      → Refuses run a b old refusal → Refuses (λ given. then_with (run given) (next given)) a b old refusal
  refuses_then run next a b old refusal is = record {
    given = is.given;
    short = is.short;
    asked = is.asked;
    told = is.told;
    agrees = is.agrees;
    is = ap (λ step. then_with step (next is.given)) is.is;
    last = is.last;
    counted = is.counted;
  }

  -- the first part goes on, and the second answers
  pub answers_later : (run : Given → Progress A) (next : Given → A → ModuleTable → Progress B) (a b c : FolderView) (old mid new : ModuleTable) (value : A) (result : Result B PackFault) → Stays a b
      → Did run a b old mid value → Answers (λ given. next given value mid) b c mid new result → Answers (λ given. then_with (run given) (next given)) a c old new result
  answers_later run next a b c old mid new value (Ok last) stays one two = did_then run next a b c old mid new value last stays one two
  answers_later run next a b c old mid new value (Err refusal) stays one two =
      map_cause refusal (RoseAt refusal b.faults c.faults × Refuses (λ given. next given value mid) b c mid refusal)
      (RoseAt refusal a.faults c.faults × Refuses (λ given. then_with (run given) (next given)) a c old refusal)
      (λ is. (rose_later refusal a b c stays is.0, refuses_later run next a b c old mid value refusal stays one is.1)) two

  -- the first part is refused
  pub answers_refused : (run : Given → Progress A) (next : Given → A → ModuleTable → Progress B) (a b : FolderView) (old new : ModuleTable) (refusal : PackFault)
      → RefusesUnlessMemory run a b old refusal → Answers (λ given. then_with (run given) (next given)) a b old new (Err refusal)
  answers_refused run next a b old new refusal is =
      map_cause refusal (RoseAt refusal a.faults b.faults × Refuses run a b old refusal)
      (RoseAt refusal a.faults b.faults × Refuses (λ given. then_with (run given) (next given)) a b old refusal)
      (λ both. (both.0, refuses_then run next a b old refusal both.1)) is

-- ---- progress that is another one

pub answers_same : {A : Type 0} (run other : Given → Progress A) (a b : FolderView) (old new : ModuleTable) (result : Result A PackFault) → ((given : Given) → other given ≡ run given) → Answers run a b old new result → Answers other a b old new result
answers_same run other a b old new (Ok value) same is = record { sound = is.sound; saw = is.saw; is = λ given agrees. same given ∙ is.is given agrees; keeps = is.keeps; longer = is.longer; counted = is.counted }
answers_same run other a b old new (Err refusal) same is =
    map_cause refusal (RoseAt refusal a.faults b.faults × Refuses run a b old refusal) (RoseAt refusal a.faults b.faults × Refuses other a b old refusal) (λ both. (
      both.0,
      record {
        given = both.1.given;
        short = both.1.short;
        asked = both.1.asked;
        told = both.1.told;
        agrees = both.1.agrees;
        is = same both.1.given ∙ both.1.is;
        last = both.1.last;
        counted = both.1.counted;
      },
    )) is
