-- What the decoder's answer tells of an address.
use Rattle.std.proofs.Common.{◌≡◌, ℕ, ◌+◌, List, take, Ok, Err, refl, subst}
use Rattle.x64_syntax.specs.declared.instr.Instr.{Instr}
use Rattle.x64_syntax.specs.declared.placed.Flow.{Flow}
use Rattle.x64_decode.specs.declared.decode.DecodeFault.{DecodeFault}
use Rattle.x64_decode.specs.declared.decode.DecodeFault.TheVariants.{Cut, Unknown, TooLong}
use Rattle.x64_decode.specs.Spelling.{Answers}
use Rattle.x64_decode.proofs.CallerLemmas.{decoded}
use Rattle.code_at.specs.Code.{code_from, Program, StandsAt, IsRefused, IsBad, IsListed, IsInCode, flow_of}
use Rattle.code_at.specs.Kinds.{kind_of}
use Rattle.code_at.proofs.CodeLemmas.{again}

pub told_instruction : (program : Program) (address : ℕ) (slice : List ℕ) (i : Instr) (n : ℕ) (f : Flow) → slice ≡ take 15 (code_from program.parts address)
    → Answers (take 15 slice) (Ok (i, n)) → (IsListed program address → ⊥) → f ≡ flow_of program (address + n) i
    → StandsAt program address (record { address = address; length = n; instr = i; flow = f })
told_instruction program address slice i n f shows answers unlisted flows =
    let code = code_from program.parts address in
    let said = decoded code i n (subst (λ c. Answers c (Ok (i, n))) (again code slice shows) answers) in
    record { here = refl; unlisted = unlisted; short = said.0.1; within = said.0.2; spelled = said.1; flows = flows }

told_refused : (program : Program) (address : ℕ) (slice : List ℕ) (fault : DecodeFault) → slice ≡ take 15 (code_from program.parts address)
    → Answers (take 15 slice) (Err fault) → (IsListed program address → ⊥) → IsInCode program.parts address → IsRefused program address fault
told_refused program address slice fault shows answers unlisted inside =
    let code = code_from program.parts address in
    record { unlisted = unlisted; inside = inside; refused = subst (λ c. Answers c (Err fault)) (again code slice shows) answers }

pub told_fault : (program : Program) (address : ℕ) (slice : List ℕ) (fault : DecodeFault) → slice ≡ take 15 (code_from program.parts address)
    → Answers (take 15 slice) (Err fault) → (IsListed program address → ⊥) → IsInCode program.parts address → IsBad program address (kind_of fault)
told_fault program address slice Cut shows answers unlisted inside = told_refused program address slice Cut shows answers unlisted inside
told_fault program address slice Unknown shows answers unlisted inside = told_refused program address slice Unknown shows answers unlisted inside
told_fault program address slice TooLong shows answers unlisted inside = told_refused program address slice TooLong shows answers unlisted inside
