use Rattle.std.proofs.Common.{List, [], ◌∷◌, sym, subst}
use Rattle.a64_code.specs.declared.instr.XReg.{XReg}
use Rattle.a64_block.specs.declared.block.ABlock.{ABlock}
use Rattle.code_layout.specs.Conditions.{AreBegun}
use Rattle.code_layout.proofs.tests.three_sites_are_searched.Goals as goal

pub laid-requires-clause-threads : goal.laid-requires-clause-threads
laid-requires-clause-threads g c = subst (λ (l : List (ABlock XReg)). AreBegun l (0x401000 ∷ [])) (sym c.deref.ensures.value) c.in_ok-blocks.ensures.threads

pub laid-requires-clause-sites : goal.laid-requires-clause-sites
laid-requires-clause-sites g c = subst (λ (l : List (ABlock XReg)). AreBegun l (0x401000 ∷ 0x401001 ∷ 0x7FFF12345678 ∷ [])) (sym c.deref.ensures.value) c.in_ok-blocks.ensures.sites
