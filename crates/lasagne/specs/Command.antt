-- How a call ends: for each status when it comes, and what it leaves.
use Rattle.std.specs.Prelude.{◌≡◌, ◌⊎◌, ℕ, List, Option, Some, IfSome}
use Rattle.lasagne.specs.declared.command.Status.{Status}
use Rattle.lasagne.specs.declared.command.Status.TheVariants.{Done, Refused, Usage, ReadFailed, WriteFailed, NoMemory, NotExplained, OutFailed}
use Rattle.lz_ports.specs.Ports.{Files, Rose, IsPut, IsTorn, Told, Took, TookPart}
use Rattle.elf_read.specs.declared.fault.FileFault.{FileFault}
use Rattle.gen_input.specs.Made.{made_file}
use Rattle.cfg_walk.specs.declared.code.Code.{Code}
use Rattle.carry_spec.specs.declared.plan.BlockPlan.{BlockPlan}
use Rattle.carry_spec.specs.declared.summary.Summary.{Summary}
use Rattle.carry_spec.specs.Faults.{IsRefusedFor}
use Rattle.lasagne.specs.Image.{IsImageFor, HasSummary}
use Rattle.lasagne.specs.Plan.{HasPlan, plan_text}
use Rattle.lasagne.specs.Shape.{Shape, Translate, Plan, Try, words_of, HasNoShape}
use Rattle.lasagne.specs.Texts.{usage_line, refused_line, translated_line, tried_line, try_name}

-- What is told of the outside at a moment: the files, what the sink has taken, and the counts of failed gets, failed puts and failed
-- writes.
pub record World : Type 0 where
  pub files : Option Files
  pub taken : Option (List ℕ)
  pub get_faults : ℕ
  pub put_faults : ℕ
  pub sink_faults : ℕ

-- no file is touched; nothing is written
abbrev pub SameFiles : World → World → Type 0
SameFiles old new = new.files ≡ old.files

abbrev pub SameTaken : World → World → Type 0
SameTaken old new = new.taken ≡ old.taken

-- the sink took the line, or a prefix of it where its count rose
abbrev pub Says : List ℕ → World → World → Type 0
Says text old new = Told old.taken new.taken (Took text) ⊎ (Rose old.sink_faults new.sink_faults × Told old.taken new.taken (TookPart text))

-- the bytes are those under a name, where they are told
abbrev pub IsUnder : List ℕ → World → List ℕ → Type 0
IsUnder from old input = IfSome old.files (λ files. files from ≡ Some input)

-- the bytes are those of the file that is made of so many rounds
abbrev pub IsMade : ℕ → List ℕ → Type 0
IsMade rounds input = input ≡ made_file rounds

-- an image for such an input, and of both and the input's code this holds
abbrev pub OfImage : (List ℕ → Type 0) → (List ℕ → Code → List ℕ → Type 0) → Type 0
OfImage IsInput P = (input : List ℕ) × (image : List ℕ) × (is : IsImageFor input image) × IsInput input × P input is.carries.code image

-- an image for such an input is under a name, and all other names are as before
abbrev pub HasImage : (List ℕ → Type 0) → List ℕ → World → World → Type 0
HasImage IsInput to old new = OfImage IsInput (λ input code image. Told old.files new.files (IsPut to image))

-- the same, with something of the summary of the input
abbrev pub HasImageAnd : (List ℕ → Type 0) → List ℕ → World → World → (Summary → Type 0) → Type 0
HasImageAnd IsInput to old new P =
    OfImage IsInput (λ input code image. Told old.files new.files (IsPut to image) × (summary : Summary) × HasSummary input code summary × P summary)

-- the bytes under IN, where they are told, are refused for this fault
abbrev pub HasFault : List ℕ → World → FileFault → Type 0
HasFault from old why = IfSome old.files (λ files. (bytes : List ℕ) × (files from ≡ Some bytes) × IsRefusedFor bytes why)

-- the file under IN is refused for a fault, and a line tells it
abbrev pub IsRefusal : List ℕ → World → World → Type 0
IsRefusal from old new = (why : FileFault) × HasFault from old why × Says (refused_line why) old new

-- How it ends to put these bytes under a name and then to write a line.
abbrev pub EndsWritten : Status → (image to line : List ℕ) → World → World → Type 0
EndsWritten Done image to line old new = Told old.files new.files (IsPut to image) × Told old.taken new.taken (Took line)
EndsWritten WriteFailed image to line old new = Rose old.put_faults new.put_faults × Told old.files new.files (IsTorn to image) × SameTaken old new
EndsWritten OutFailed image to line old new =
    Rose old.sink_faults new.sink_faults × Told old.files new.files (IsPut to image) × Told old.taken new.taken (TookPart line)
EndsWritten NoMemory image to line old new = SameTaken old new × (SameFiles old new ⊎ Told old.files new.files (IsPut to image))
EndsWritten status image to line old new = ⊥

-- The ends of a command that puts an image of such an input under a name, and then writes a line of the input's summary. Each status
-- has its cause; want of memory alone is free.
abbrev pub EndsPut : Status → (List ℕ → Type 0) → List ℕ → (Summary → List ℕ) → World → World → Type 0
EndsPut Done IsInput to line old new = HasImageAnd IsInput to old new (λ summary. Told old.taken new.taken (Took (line summary)))
EndsPut WriteFailed IsInput to line old new =
    Rose old.put_faults new.put_faults × OfImage IsInput (λ input code image. Told old.files new.files (IsTorn to image)) × SameTaken old new
EndsPut OutFailed IsInput to line old new =
    Rose old.sink_faults new.sink_faults × HasImageAnd IsInput to old new (λ summary. Told old.taken new.taken (TookPart (line summary)))
EndsPut NoMemory IsInput to line old new = SameTaken old new × (SameFiles old new ⊎ HasImage IsInput to old new)
EndsPut status IsInput to line old new = ⊥

-- The table of ends of `translate IN OUT`.
abbrev pub EndsTranslate : Status → List ℕ → List ℕ → World → World → Type 0
EndsTranslate Refused from to old new = SameFiles old new × IsRefusal from old new
EndsTranslate ReadFailed from to old new = Rose old.get_faults new.get_faults × SameFiles old new × SameTaken old new
EndsTranslate status from to old new = EndsPut status (IsUnder from old) to translated_line old new

-- The table of ends of `try N`, which reads no file. A made file has no fault, so it is not refused.
abbrev pub EndsTry : Status → ℕ → World → World → Type 0
EndsTry status rounds old new = EndsPut status (IsMade rounds) try_name (tried_line rounds) old new

-- no file is touched, and of the text of the plan of the bytes under a name this holds
abbrev pub OfPlan : List ℕ → World → World → (List ℕ → Type 0) → Type 0
OfPlan from old new P =
    SameFiles old new
    × (input : List ℕ) × (plan : List BlockPlan) × (summary : Summary) × HasPlan input plan summary
    × IfSome old.files (λ files. files from ≡ Some input) × P (plan_text plan summary)

-- The table of ends of `plan IN`, which puts nothing.
abbrev pub EndsPlan : Status → List ℕ → World → World → Type 0
EndsPlan Done from old new = OfPlan from old new (λ text. Told old.taken new.taken (Took text))
EndsPlan Refused from old new = SameFiles old new × IsRefusal from old new
EndsPlan ReadFailed from old new = Rose old.get_faults new.get_faults × SameFiles old new × SameTaken old new
EndsPlan OutFailed from old new =
    Rose old.sink_faults new.sink_faults × OfPlan from old new (λ text. Told old.taken new.taken (TookPart text))
EndsPlan NoMemory from old new = SameTaken old new × SameFiles old new
EndsPlan WriteFailed from old new = ⊥
EndsPlan Usage from old new = ⊥
EndsPlan NotExplained from old new = ⊥

-- how a command ends, a row for each shape
abbrev pub Ends : Shape → Status → World → World → Type 0
Ends (Translate from to) status = EndsTranslate status from to
Ends (Plan from) status = EndsPlan status from
Ends (Try rounds are) status = EndsTry status rounds

-- The table of ends where the words are no command: usage is told, but for want of memory.
abbrev pub EndsUsage : Status → World → World → Type 0
EndsUsage Usage old new = SameFiles old new × Says usage_line old new
EndsUsage NoMemory old new = SameFiles old new × SameTaken old new
EndsUsage status old new = ⊥

-- The table of answers: the words are one command, and the end is one of its ends, or they are none. So usage is told exactly of
-- words that are no command.
abbrev pub Answers : Status → List (List ℕ) → World → World → Type 0
Answers status words old new =
    ((shape : Shape) × (words ≡ words_of shape) × Ends shape status old new) ⊎ (HasNoShape words × EndsUsage status old new)

-- A line was written to tell of a status, which stands but for want of memory.
abbrev pub IsSaid : List ℕ → Status → Option (List ℕ) → ℕ → Option (List ℕ) → ℕ → Status → Type 0
IsSaid text status old before new now result =
    ((result ≡ status) × (Told old new (Took text) ⊎ (Rose before now × Told old new (TookPart text))))
    ⊎ ((result ≡ NoMemory) × (new ≡ old))
