-- What each lowered code keeps. It serves the proof alone.
use Rattle.std.specs.Prelude.{◌≡◌, ℕ, ◌+◌, ◌*◌, ◌<◌, ◌≤◌, ◌⊎◌, List, length, slice_index_or, ⊤}
use Rattle.mdg_scan.specs.declared.first.code.Code.{Code}
use Rattle.mdg_scan.specs.declared.first.code.FunctionRow.{FunctionRow}
use Rattle.mdg_scan.specs.declared.first.code.Line.{Line}
use Rattle.mdg_scan.specs.declared.first.code.Statement.{Statement}
use Rattle.mdg_scan.specs.declared.first.code.Statement.TheVariants.{Literal, Copy, Op, Object, Function, Shared, Set, SetCell, Call, Land, Return}

abbrev pub IsReturn : Statement → Type 0
IsReturn (Literal into text) = ⊥
IsReturn (Copy into of) = ⊥
IsReturn (Op into of) = ⊥
IsReturn (Object into) = ⊥
IsReturn (Function into function) = ⊥
IsReturn (Shared into shared) = ⊥
IsReturn (Set of column value) = ⊥
IsReturn (SetCell cell value) = ⊥
IsReturn (Call into callee arguments) = ⊥
IsReturn Land = ⊥
IsReturn (Return value) = ⊤

-- after this line another one of its function comes, unless it returns
abbrev pub IsFollowed : List Line → ℕ → Line → Type 0
IsFollowed lines site default =
    IsReturn (slice_index_or lines site default).statement
    ⊎ ((site + 1 < length lines) × ((slice_index_or lines (site + 1) default).function ≡ (slice_index_or lines site default).function))

pub record IsWellFormed (code : Code) : Type 0 where
  pub followed : (site : ℕ) (default : Line) → site < length code.lines → IsFollowed code.lines site default
  pub entered : (function : ℕ) (default : FunctionRow) → function < length code.functions → (slice_index_or code.functions function default).entry.0 < length code.lines
  pub few : length code.lines ≤ 10 * length code.functions
