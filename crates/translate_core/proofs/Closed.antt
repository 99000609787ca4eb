-- Blocks of words that the passes made of all blocks of a code are closed: they can be laid out.
use Rattle.std.proofs.Common.{◌≡◌, ℕ, zero, suc, List, [], ◌∷◌, slice_get, Option, Some, None, refl, sym, ap, ◌∙◌, subst}
use Rattle.std.specs.List.{AllByRecursion}
use Rattle.std.specs.Option.{option_map}
use Rattle.std.proofs.lemmas.Option.{slice_get-map}
use Rattle.ev_graph.specs.Places.{StandsIn}
use Rattle.x64_syntax.specs.declared.slots.Slot.{Slot}
use Rattle.code_at.specs.Code.{Program}
use Rattle.cfg_walk.specs.declared.code.Block.{Block}
use Rattle.cfg_walk.specs.declared.code.Code.{Code}
use Rattle.cfg_walk.specs.Code.{IsCodeOf, IsIncreasing}
use Rattle.cfg_walk.specs.Running as walk
use Rattle.cfg_walk.proofs.CallerLemmas.{entries_begin, sites_begin}
use Rattle.a64_code.specs.declared.instr.XReg.{XReg}
use Rattle.a64_block.specs.Conditions.{IsLayable}
use Rattle.a64_block.specs.declared.block.ABlock.{ABlock}
use Rattle.a64_block.specs.declared.block.AEnd.{AEnd}
use Rattle.a64_block.specs.declared.block.AEnd.TheVariants as ends
use Rattle.code_layout.specs.Conditions.{LeadsToBlocks, AreClosed, AreBegun}
use Rattle.code_layout.specs.Places.{firsts, IsBegun}
use Rattle.translate_core.specs.Passed.{ArePassed, IsPassed, LeadsOn}

pub all_stand : {A : Type 0} (P : A → Type 0) (xs : List A) (x : A) → AllByRecursion P xs → StandsIn xs x → P x
all_stand {A} P xs x all (k, at) = by xs k all at
  where
    same : {x y : A} → Some x ≡ Some y → x ≡ y
    same e = cc

    by : (xs : List A) (k : ℕ) → AllByRecursion P xs → slice_get xs k ≡ Some x → P x
    by [] k all at = absurd cc
    by (y ∷ ys) zero all at = subst P (same at) all.0
    by (y ∷ ys) (suc k) all at = by ys k all.1 at

module _ (private : List Slot) (program : Program) (code : Code) (is : IsCodeOf program code) (blocks : List (ABlock XReg)) (are : ArePassed private code code.blocks blocks) where
  -- where a block of the code begins a block of words does
  pub begun : (a : ℕ) → walk.IsBegun code a → IsBegun blocks a
  begun a (c, (i, at), first) = by (slice_get blocks i) refl (sym (slice_get-map (λ (b : ABlock XReg). b.first) blocks i) ∙ there)
    where
      there : slice_get (firsts blocks) i ≡ Some c.first
      there = ap (λ l. slice_get l i) are.begin ∙ slice_get-map (λ (b : Block). b.first) code.blocks i ∙ ap (option_map (λ (b : Block). b.first)) at

      same : {x y : ℕ} → Some x ≡ Some y → x ≡ y
      same e = cc

      by : (o : Option (ABlock XReg)) → slice_get blocks i ≡ o → option_map (λ (b : ABlock XReg). b.first) o ≡ Some c.first → IsBegun blocks a
      by None found some = absurd cc
      by (Some b) found some = (b, (i, found), same some ∙ first)

  leads_to : (end : AEnd XReg) → LeadsOn code end → LeadsToBlocks blocks end
  leads_to (ends.Goto a) leads = begun a leads
  leads_to (ends.Branch r a b) leads = (begun a leads.0, begun b leads.1)
  leads_to (ends.Return r) leads = tt
  leads_to (ends.Indexed r table) leads = leads
  leads_to (ends.Stop kind) leads = leads

  pub closed : AreClosed blocks
  closed = record {
    layable = λ b at. all_stand (λ (b : ABlock XReg). IsLayable b.steps b.end) blocks b are.layable at;
    leads = λ b at. leads_to b.end (all_stand (λ (b : ABlock XReg). LeadsOn code b.end) blocks b are.leads at);
    sorted = subst IsIncreasing (sym are.begin) is.blocks.sorted;
  }

  -- threads begin with blocks, and return to blocks
  pub threads_begun : AreBegun blocks program.entries
  threads_begun a at = begun a (entries_begin program code is a at)

  pub sites_begun : AreBegun blocks code.sites
  sites_begun a at = begun a (sites_begin program code is a ((is.sites.exact a).0 at))

  -- each block is one that the passes made
  pub each_passed : (b : ABlock XReg) → StandsIn blocks b → IsPassed private code b
  each_passed b at = all_stand (IsPassed private code) blocks b are.passed at
