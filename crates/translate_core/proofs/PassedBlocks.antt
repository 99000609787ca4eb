-- Blocks that are passed one behind the other.
use Rattle.std.proofs.Common.{◌≡◌, ℕ, ◌+◌, ◌<◌, ◌≤◌, List, [], ◌∷◌, ◌++◌, length, get_or, map, take, refl, sym, ap, ◌∙◌, subst}
use Rattle.std.proofs.lemmas.List.{take_more, map-append, take_all}
use Rattle.std.proofs.lemmas.Option.{slice_get-get_or}
use Rattle.behavior.proofs.Lists.{all_append}
use Rattle.x64_syntax.specs.declared.slots.Slot.{Slot}
use Rattle.cfg_walk.specs.declared.code.Block.{Block}
use Rattle.cfg_walk.specs.declared.code.Code.{Code}
use Rattle.lift.specs.Recovered.{IsBlockAt}
use Rattle.a64_code.specs.declared.instr.XReg.{XReg}
use Rattle.a64_block.specs.Conditions.{IsLayable}
use Rattle.a64_block.specs.declared.block.ABlock.{ABlock}
use Rattle.translate_core.specs.Passed.{IsPassed, ArePassed, LeadsOn}

abbrev IsLayableBlock : ABlock XReg → Type 0
IsLayableBlock b = IsLayable b.steps b.end

-- before the first of them there is none
pub none_passed : (private : List Slot) (code : Code) (of : List Block) (blocks : List (ABlock XReg)) → blocks ≡ [] → ArePassed private code (take 0 of) blocks
none_passed private code of blocks none = subst (ArePassed private code (take 0 of)) (sym none) (record { begin = refl; passed = tt; layable = tt; leads = tt })

-- one more
pub passed_more : (private : List Slot) (code : Code) (k : ℕ) (blocks all : List (ABlock XReg)) (b : ABlock XReg) → k < length code.blocks → all ≡ blocks ++ b ∷ []
    → ((one : Block) → IsBlockAt code k one → b.first ≡ one.first) → IsPassed private code b → IsLayableBlock b → LeadsOn code b.end → ArePassed private code (take k code.blocks) blocks
    → ArePassed private code (take (k + 1) code.blocks) all
passed_more private code k blocks all b within same begins passed layable leads are =
    let none : Block = record { first = 0; count = 0 } in
    let one = get_or code.blocks k none in
    let level : b.first ≡ one.first = begins one (slice_get-get_or code.blocks k none within) in
    subst (ArePassed private code (take (k + 1) code.blocks)) (sym same) (record {
      begin = map-append (λ (b : ABlock XReg). b.first) blocks (b ∷ [])
          ∙ ap (λ l. l ++ b.first ∷ []) are.begin
          ∙ ap (λ a. map (λ (b : Block). b.first) (take k code.blocks) ++ a ∷ []) level
          ∙ sym (map-append (λ (b : Block). b.first) (take k code.blocks) (one ∷ []))
          ∙ ap (map (λ (b : Block). b.first)) (sym (take_more code.blocks k none within));
      passed = all_append (IsPassed private code) blocks (b ∷ []) are.passed (passed, tt);
      layable = all_append IsLayableBlock blocks (b ∷ []) are.layable (layable, tt);
      leads = all_append (λ (b : ABlock XReg). LeadsOn code b.end) blocks (b ∷ []) are.leads (leads, tt);
    })

-- all of them
pub all_passed : (private : List Slot) (code : Code) (k : ℕ) (blocks all : List (ABlock XReg)) → length code.blocks ≤ k → all ≡ blocks → ArePassed private code (take k code.blocks) blocks
    → ArePassed private code code.blocks all
all_passed private code k blocks all past same are =
    subst (λ of. ArePassed private code of all) (take_all k code.blocks past) (subst (ArePassed private code (take k code.blocks)) (sym same) are)
