-- Which texts the grammar has, and where the others leave it.
--
-- The lines of a text are its parts round the bytes 0A; behind the last 0A stands one part more, which is empty in a whole text.
use Rattle.std.specs.Prelude.{◌≡◌, ◌≢◌, ℕ, ◌+◌, List, [], ◌∷◌, ◌++◌, length, Err}
use Rattle.exec_text.specs.declared.exec_file.ExecFile.{ExecFile}
use Rattle.exec_text.specs.declared.fault.LineFault.{LineFault}
use Rattle.exec_text.specs.declared.fault.LineFault.TheVariants as line
use Rattle.exec_text.specs.declared.fault.ReadFault.{ReadFault}
use Rattle.exec_text.specs.declared.fault.ReadFault.TheVariants as read
use Rattle.exec_text.specs.declared.fault.TextFault.{TextFault}
use Rattle.exec_text.specs.declared.fault.TextKind.{TextKind}
use Rattle.exec_text.specs.declared.fault.TextKind.TheVariants.{Shape, Number}
use Rattle.exec_text.specs.declared.stage.Stage.{Stage}
use Rattle.exec_text.specs.declared.stage.Stage.TheVariants.{Begun, Ended}
use Rattle.exec_text.specs.Parts.{parts_at}
use Rattle.exec_text.specs.Reading.{Tells}
use Rattle.exec_text.specs.Lines.{Next, IsWithin}

-- each of these lines may come behind those before it, within the limits; they lead from the one stage to the other
abbrev pub Follows : Stage → List (List ℕ) → Stage → Type 0
Follows start [] stage = start ≡ stage
Follows start (line ∷ lines) stage = (next : Stage) × Next start line next × IsWithin next × Follows next lines stage

-- the text is one of the grammar, and this is what it says
abbrev pub IsText : List ℕ → ExecFile → Type 0
IsText text file = (lines : List (List ℕ)) × (parts_at 10 text ≡ lines ++ [] ∷ []) × Follows Begun lines (Ended file)

-- At this stage the first of these parts leaves the grammar, in this way: it is the last, which no 0A ends, and is no empty
-- one behind the end; or no line of the grammar may come here that is written so; or one may, but is beyond the limits.
abbrev pub Leaves : Stage → List (List ℕ) → TextKind → Type 0
Leaves stage [] kind = ⊥
Leaves stage (last ∷ []) Shape = (file : ExecFile) → stage ≡ Ended file → last ≢ []
Leaves stage (last ∷ []) Number = ⊥
Leaves stage (line ∷ next ∷ parts) kind = Tells {A = Stage} (Next stage line) IsWithin (Err kind)

-- the first line of the text that leaves the grammar, counted from 1, and how
pub record IsFirstFault (text : List ℕ) (fault : TextFault) : Type 0 where
  pub before : List (List ℕ)
  pub rest : List (List ℕ)
  pub stage : Stage
  pub parts : parts_at 10 text ≡ before ++ rest
  pub follows : Follows Begun before stage
  pub line : fault.line ≡ length before + 1
  pub leaves : Leaves stage rest fault.kind

-- why the text is not read
abbrev pub IsFault : List ℕ → ReadFault → Type 0
IsFault text (read.Text fault) = IsFirstFault text fault
IsFault text read.NoMemory = Unit {0}

-- a line's fault as one of the text
abbrev pub fault_at : ℕ → LineFault → ReadFault
fault_at number (line.Kind kind) = read.Text (record { line = number; kind = kind })
fault_at number line.NoMemory = read.NoMemory
