-- No fault holds of a made file.
use Rattle.std.proofs.Common.{◌≤◌, ◌<◌, ℕ, List, arith, subst, inl, inr, ⊎_elim}
use Rattle.std.proofs.lemmas.Bool.{cases_lt}
use Rattle.elf_read.specs.declared.fault.FileFault.{FileFault}
use Rattle.elf_read.specs.declared.fault.FileFault.TheVariants.{TooMuchCode, BadCode, Indirect, Overlap, TableEntered, UndefinedFlag}
use Rattle.elf_read.specs.FileFaults as file
use Rattle.elf_read.specs.FirstFault.{rank}
use Rattle.code_at.specs.Code.{Program}
use Rattle.cfg_walk.specs.Faults as walk
use Rattle.flag_use.specs.Faults as flags
use Rattle.carry_spec.specs.Faults.{HasNoFault}
use Rattle.gen_input.specs.Made.{made_file}
use Rattle.made_laws.proofs.MadeFile.{made_clear}
use Rattle.made_laws.specs.Made.{made_program}
use Rattle.made_laws.proofs.Program.{program_made}
use Rattle.made_laws.proofs.Reached.{not_too_much, no_bad_code, no_indirect, no_overlap}
use Rattle.made_laws.proofs.Flags.{no_undefined}

-- a fault of a file has no higher rank than these
file_low : (bytes : List ℕ) (g : FileFault) → 13 ≤ rank g → file.Holds bytes g → ⊥
file_low bytes TooMuchCode high holds = holds
file_low bytes (BadCode fault) high holds = holds
file_low bytes (Indirect a) high holds = holds
file_low bytes (Overlap a) high holds = holds
file_low bytes (TableEntered a) high holds = holds
file_low bytes (UndefinedFlag a) high holds = holds
file_low bytes g high holds = absurd (omega (arith, high))

no_code_fault : (n : ℕ) → n ≤ 20000 → (g : FileFault) → walk.Holds (made_program n) g → ⊥
no_code_fault n few TooMuchCode holds = not_too_much n few holds
no_code_fault n few (BadCode fault) holds = no_bad_code n few fault holds
no_code_fault n few (Indirect a) holds = no_indirect n few a holds
no_code_fault n few (Overlap a) holds = no_overlap n few a holds
no_code_fault n few g holds = absurd holds

no_flag_fault : (n : ℕ) → n ≤ 20000 → (g : FileFault) → flags.Holds (made_program n) g → ⊥
no_flag_fault n few (UndefinedFlag a) holds = no_undefined n few a holds
no_flag_fault n few g holds = absurd holds

-- neither one of the file, nor one of its code, nor one of its flags
pub no_fault_made : (n : ℕ) → 1 ≤ n → n ≤ 20000 → HasNoFault (made_file n)
no_fault_made n some few g low high (inl holds) =
    ⊎_elim (λ (less : rank g < 13). made_clear n some few g low less holds) (λ (more : 13 ≤ rank g). file_low (made_file n) g more holds) (cases_lt (rank g) 13)
no_fault_made n some few g low high (inr (inl holds)) = no_code_fault n few g (subst (λ (p : Program). walk.Holds p g) (program_made n few) holds)
no_fault_made n some few g low high (inr (inr holds)) = no_flag_fault n few g (subst (λ (p : Program). flags.Holds p g) (program_made n few) holds)
