-- How the parts of a command's end come together.
use Rattle.std.proofs.Common.{◌≡◌, ℕ, ◌<◌, ◌≤◌, List, [], ◌∷◌, length, arith, sym, ◌∙◌, ap, subst, inl, inr, get_or}
use Rattle.std.specs.Prelude.{Option, Some, None, IfSome}
use Rattle.lasagne.specs.declared.command.Status.{Status}
use Rattle.lasagne.specs.declared.command.Status.TheVariants as status
use Rattle.lz_ports.specs.Ports.{Files, Rose, IsPut, IsTorn, IsLonger, Told, Took, TookPart}
use Rattle.elf_read.specs.declared.fault.FileFault.{FileFault}
use Rattle.elf_read.specs.declared.fault.FileFault.TheVariants as file
use Rattle.elf_read.specs.FirstFault.{rank, Before}
use Rattle.carry_spec.specs.declared.plan.BlockPlan.{BlockPlan}
use Rattle.carry_spec.specs.declared.summary.Summary.{Summary}
use Rattle.carry_spec.specs.Faults.{IsRefusedFor}
use Rattle.gen_input.specs.Made.{made_file}
use Rattle.made_laws.proofs.CallerLemmas.{no_fault_made}
use Rattle.lasagne.specs.Image.{IsImageFor, HasSummary}
use Rattle.lasagne.specs.Command.{World, EndsPlan, EndsPut, EndsTranslate, EndsWritten, IsSaid, IsUnder, OfPlan, SameFiles, SameTaken, IsRefusal}
use Rattle.lasagne.specs.Plan.{HasPlan, plan_text}
use Rattle.lasagne.specs.Texts.{refused_line, translated_line}

-- a file that is too long has that fault first
longer_is_first : (bytes : List ℕ) → 67108864 < length bytes → IsRefusedFor bytes file.TooLong
longer_is_first bytes long = record { holds = inl long; from = omega arith; below = omega arith; first = λ g from before holds. none g from before }
  where
    none : (g : FileFault) → 1 ≤ rank g → Before g file.TooLong → ⊥
    none g from (inl less) = absurd (omega (arith, from, less))
    none g from (inr (same, less)) = absurd (omega (arith, less))

pub longer_refused : (files : Option Files) (name : List ℕ) (limit before now : ℕ) → limit ≡ 67108864
    → IfSome files (λ f. IsLonger f name limit × (Rose before now → ⊥)) → IfSome files (λ f. (bytes : List ℕ) × (f name ≡ Some bytes) × IsRefusedFor bytes file.TooLong)
longer_refused None name limit before now e longer = longer
longer_refused (Some f) name limit before now e longer =
    (longer.0.bytes, longer.0.here, longer_is_first longer.0.bytes (let long = longer.0.longer in omega (arith, e, long)))

-- so has one that was not translated the fault for which it was not
pub fault_refused : (files : Option Files) (name items bytes : List ℕ) (why : FileFault) → bytes ≡ items → IsRefusedFor bytes why
    → IfSome files (λ f. f name ≡ Some items) → IfSome files (λ f. (bytes : List ℕ) × (f name ≡ Some bytes) × IsRefusedFor bytes why)
fault_refused None name items bytes why same refused read = read
fault_refused (Some f) name items bytes why same refused read = (items, read, subst (λ b. IsRefusedFor b why) same refused)

-- what was read, under another name for the same bytes
pub read_same : (files : Option Files) (name items bytes : List ℕ) → bytes ≡ items → IfSome files (λ f. f name ≡ Some items) → IfSome files (λ f. f name ≡ Some bytes)
read_same None name items bytes same read = read
read_same (Some f) name items bytes same read = read ∙ ap Some (sym same)

-- the end of a refusal, by a table that has these two ends
pub refused : (Table : Status → Type 0) (result : Status) (from : List ℕ) (old new : World) (why : FileFault)
    → (SameFiles old new × IsRefusal from old new → Table status.Refused) → (SameTaken old new × SameFiles old new → Table status.NoMemory)
    → IfSome old.files (λ files. (bytes : List ℕ) × (files from ≡ Some bytes) × IsRefusedFor bytes why) → SameFiles old new
    → IsSaid (refused_line why) status.Refused old.taken old.sink_faults new.taken new.sink_faults result → Table result
refused Table result from old new why is_refused no_memory fault same (inl said) = subst Table (sym said.0) (is_refused (same, (why, fault, said.1)))
refused Table result from old new why is_refused no_memory fault same (inr none) = subst Table (sym none.0) (no_memory (none.1, same))

pub translate_refused : (result : Status) (from to : List ℕ) (old new : World) (why : FileFault)
    → IfSome old.files (λ files. (bytes : List ℕ) × (files from ≡ Some bytes) × IsRefusedFor bytes why) → SameFiles old new
    → IsSaid (refused_line why) status.Refused old.taken old.sink_faults new.taken new.sink_faults result → EndsTranslate result from to old new
translate_refused result from to old new why =
    refused (λ s. EndsTranslate s from to old new) result from old new why (λ is. is) (λ none. (none.0, inl none.1))

pub plan_refused : (result : Status) (from : List ℕ) (old new : World) (why : FileFault)
    → IfSome old.files (λ files. (bytes : List ℕ) × (files from ≡ Some bytes) × IsRefusedFor bytes why) → SameFiles old new
    → IsSaid (refused_line why) status.Refused old.taken old.sink_faults new.taken new.sink_faults result → EndsPlan result from old new
plan_refused result from old new why = refused (λ s. EndsPlan s from old new) result from old new why (λ is. is) (λ none. none)

-- a made file is refused for no fault
pub never_refused : (rounds : ℕ) → 1 ≤ rounds → rounds ≤ 20000 → (input : List ℕ) → input ≡ made_file rounds → (why : FileFault) → IsRefusedFor input why → ⊥
never_refused rounds some few input same why refused =
    let first : IsRefusedFor (made_file rounds) why = subst (λ b. IsRefusedFor b why) same refused in
    no_fault_made rounds some few why first.from first.below first.holds

-- ---- an image that is put

-- what a `put` left, as seen from before an earlier call that left all alone but the count of failed gets
pub written_before : (result : Status) (image to text : List ℕ) (old read new : World) → read.files ≡ old.files → read.taken ≡ old.taken → read.put_faults ≡ old.put_faults
    → read.sink_faults ≡ old.sink_faults → EndsWritten result image to text read new → EndsWritten result image to text old new
written_before result image to text old read new files taken puts fails = by result
  where
    told : (P : Files → Files → Type 0) → Told read.files new.files P → Told old.files new.files P
    told P is = subst (λ (fs : Option Files). Told fs new.files P) files is

    took : (P : List ℕ → List ℕ → Type 0) → Told read.taken new.taken P → Told old.taken new.taken P
    took P is = subst (λ (t : Option (List ℕ)). Told t new.taken P) taken is

    by : (s : Status) → EndsWritten s image to text read new → EndsWritten s image to text old new
    by status.Done is = (told (IsPut to image) is.0, took (Took text) is.1)
    by status.WriteFailed is = (subst (λ (n : ℕ). Rose n new.put_faults) puts is.0, told (IsTorn to image) is.1, is.2 ∙ taken)
    by status.OutFailed is = (subst (λ (n : ℕ). Rose n new.sink_faults) fails is.0, told (IsPut to image) is.1, took (TookPart text) is.2)
    by status.NoMemory (same, inl untouched) = (same ∙ taken, inl (untouched ∙ files))
    by status.NoMemory (same, inr put) = (same ∙ taken, inr (told (IsPut to image) put))
    by status.Refused is = is
    by status.Usage is = is
    by status.ReadFailed is = is
    by status.NotExplained is = is

-- an image of such an input that was put so
pub put_ends : (result : Status) (IsInput : List ℕ → Type 0) (input image to text : List ℕ) (summary : Summary) (line : Summary → List ℕ) (old new : World)
    → IsInput input → (is : IsImageFor input image) → HasSummary input is.carries.code summary → text ≡ line summary
    → EndsWritten result image to text old new → EndsPut result IsInput to line old new
put_ends result IsInput input image to text summary line old new of is counted same = by result
  where
    by : (s : Status) → EndsWritten s image to text old new → EndsPut s IsInput to line old new
    by status.Done ends = (input, image, is, of, (ends.0, summary, counted, subst (λ (t : List ℕ). Told old.taken new.taken (Took t)) same ends.1))
    by status.WriteFailed ends = (ends.0, (input, image, is, of, ends.1), ends.2)
    by status.OutFailed ends =
        (ends.0, (input, image, is, of, (ends.1, summary, counted, subst (λ (t : List ℕ). Told old.taken new.taken (TookPart t)) same ends.2)))
    by status.NoMemory (untaken, inl untouched) = (untaken, inl untouched)
    by status.NoMemory (untaken, inr put) = (untaken, inr (input, image, is, of, put))
    by status.Refused ends = ends
    by status.Usage ends = ends
    by status.ReadFailed ends = ends
    by status.NotExplained ends = ends

-- `translate` ends so too
pub translate_ends : (result : Status) (from to : List ℕ) (old new : World) → EndsPut result (IsUnder from old) to translated_line old new
    → EndsTranslate result from to old new
translate_ends status.Done from to old new ends = ends
translate_ends status.WriteFailed from to old new ends = ends
translate_ends status.OutFailed from to old new ends = ends
translate_ends status.NoMemory from to old new ends = ends
translate_ends status.Refused from to old new ends = absurd ends
translate_ends status.Usage from to old new ends = ends
translate_ends status.ReadFailed from to old new ends = absurd ends
translate_ends status.NotExplained from to old new ends = ends

-- what was written is the line
pub took_line : (old new : Option (List ℕ)) (text written : List ℕ) → text ≡ written → Told old new (Took text) → Told old new (Took written)
took_line old new text written same told = subst (λ (t : List ℕ). Told old new (Took t)) same told

pub took_part : (old new : Option (List ℕ)) (text written : List ℕ) → text ≡ written → Told old new (TookPart text) → Told old new (TookPart written)
took_part old new text written same told = subst (λ (t : List ℕ). Told old new (TookPart t)) same told

-- the text of the plan of what was read, where no file was touched
pub of_plan : (P : List ℕ → Type 0) (from : List ℕ) (old new : World) (items input : List ℕ) (plan : List BlockPlan) (summary : Summary)
    → SameFiles old new → input ≡ items → IfSome old.files (λ f. f from ≡ Some items) → HasPlan input plan summary → P (plan_text plan summary) → OfPlan from old new P
of_plan P from old new items input plan summary untouched same read has holds =
    (untouched, input, plan, summary, has, read_same old.files from items input same read, holds)

-- a list of two
pub two : (xs : List (List ℕ)) (a b : List ℕ) → 2 ≤ length xs → length xs < 3 → a ≡ get_or xs 0 a → b ≡ get_or xs 1 b → xs ≡ a ∷ b ∷ []
two [] a b low high p q = absurd (omega arith)
two (x ∷ []) a b low high p q = absurd (omega arith)
two (x ∷ y ∷ []) a b low high p q = cc
two (x ∷ y ∷ z ∷ zs) a b low high p q = absurd (omega arith)

-- a list of three
pub three : (xs : List (List ℕ)) (a b c : List ℕ) → 3 ≤ length xs → length xs < 4
    → a ≡ get_or xs 0 a → b ≡ get_or xs 1 b → c ≡ get_or xs 2 c → xs ≡ a ∷ b ∷ c ∷ []
three [] a b c low high p q r = absurd (omega arith)
three (x ∷ []) a b c low high p q r = absurd (omega arith)
three (x ∷ y ∷ []) a b c low high p q r = absurd (omega arith)
three (x ∷ y ∷ z ∷ []) a b c low high p q r = cc
three (x ∷ y ∷ z ∷ w ∷ ws) a b c low high p q r = absurd (omega arith)
