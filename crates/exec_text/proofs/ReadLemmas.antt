-- Texts, line by line.
use Rattle.std.proofs.Common.{◌≡◌, ◌≢◌, ℕ, eqb, ◌+◌, ◌*◌, ◌<◌, ◌≤◌, List, [], ◌∷◌, ◌++◌, length, Err, refl, sym, ap, subst, ◌∙◌, append_assoc, length-append, arith}
use Rattle.exec_text.specs.declared.fault.LineFault.{LineFault}
use Rattle.exec_text.specs.declared.fault.LineFault.TheVariants as line
use Rattle.exec_text.specs.declared.fault.TextKind.{TextKind}
use Rattle.exec_text.specs.declared.lines.Word.{Word}
use Rattle.exec_text.specs.declared.lines.Word.TheVariants as word
use Rattle.exec_text.specs.declared.stage.Stage.{Stage}
use Rattle.exec_text.specs.declared.stage.Stage.TheVariants.{Begun}
use Rattle.exec_text.specs.Parts.{parts_at}
use Rattle.exec_text.specs.Reading.{Reads, Tells}
use Rattle.exec_text.specs.Lines.{Next, IsWithin, spelled}
use Rattle.exec_text.proofs.PartLemmas.{some_part}
use Rattle.exec_text.specs.Texts.{Follows, Leaves, IsFault, fault_at}

word_is_written : (w : Word) → spelled w ≢ []
word_is_written word.Title e = cc
word_is_written word.Stack e = cc
word_is_written word.Thread e = cc
word_is_written word.Read e = cc
word_is_written word.Input e = cc
word_is_written word.Order e = cc
word_is_written word.End e = cc

-- a line of the grammar has a byte
line_is_written : (stage next : Stage) (line : List ℕ) → Next stage line next → 0 < length line
line_is_written stage next [] says = absurd (let first : spelled says.0 ≡ [] = cc in word_is_written says.0 first)
line_is_written stage next (b ∷ bs) says = omega arith

-- one line more
follows_more : (start stage next : Stage) (lines : List (List ℕ)) (line : List ℕ) → Follows start lines stage → Next stage line next → IsWithin next → Follows start (lines ++ line ∷ []) next
follows_more start stage next [] line so says within = let From : Stage → Type 0 = λ s. Next s line next in (next, subst From (sym so) says, within, refl)
follows_more start stage next (first ∷ lines) line so says within = (so.0, so.1, so.2, follows_more so.0 stage next lines line so.3 says within)

-- the text is read up to this rest
pub record ReadSo (text rest : List ℕ) (stage : Stage) (line : ℕ) : Type 0 where
  pub before : List (List ℕ)
  pub parts : parts_at 10 text ≡ before ++ parts_at 10 rest
  pub follows : Follows Begun before stage
  pub number : line ≡ length before + 1
  pub room : 2 * length before + length rest ≤ length text
  pub within : IsWithin stage

pub nothing_read : (text : List ℕ) → ReadSo text text Begun 1
nothing_read text = record { before = []; parts = refl; follows = refl; number = refl; room = omega arith; within = tt }

pub line_read : (text rest bytes others : List ℕ) (stage next : Stage) (line : ℕ) → parts_at 10 rest ≡ bytes ∷ parts_at 10 others → length rest ≡ length bytes + 1 + length others
    → Next stage bytes next → IsWithin next → ReadSo text rest stage line → ReadSo text others next (line + 1)
line_read text rest bytes others stage next line cut size says within so = record {
  before = so.before ++ bytes ∷ [];
  parts = so.parts ∙ ap (λ r. so.before ++ r) cut ∙ sym (append_assoc so.before (bytes ∷ []) (parts_at 10 others));
  follows = follows_more Begun stage next so.before bytes so.follows says within;
  number = omega (arith, so.number, length-append so.before (bytes ∷ []));
  room = omega (arith, so.room, size, line_is_written stage next bytes says, length-append so.before (bytes ∷ []));
  within = within;
}

leaves_whole : (stage : Stage) (bytes : List ℕ) (parts : List (List ℕ)) (kind : TextKind) → parts ≢ [] → Tells {A = Stage} (Next stage bytes) IsWithin (Err kind) → Leaves stage (bytes ∷ parts) kind
leaves_whole stage bytes [] kind some told = absurd (some refl)
leaves_whole stage bytes (next ∷ parts) kind some told = told

-- the next line is not read
pub line_fault : (text rest bytes others : List ℕ) (stage : Stage) (line : ℕ) (fault : LineFault) → parts_at 10 rest ≡ bytes ∷ parts_at 10 others
    → Reads {A = Stage} (Next stage bytes) IsWithin (Err fault) → ReadSo text rest stage line → IsFault text (fault_at line fault)
line_fault text rest bytes others stage number (line.Kind kind) cut read so = record {
  before = so.before;
  rest = bytes ∷ parts_at 10 others;
  stage = stage;
  parts = so.parts ∙ ap (λ r. so.before ++ r) cut;
  follows = so.follows;
  line = so.number;
  leaves = leaves_whole stage bytes (parts_at 10 others) kind (some_part (λ byte. eqb byte 10) others) read;
}
line_fault text rest bytes others stage number line.NoMemory cut read so = tt
