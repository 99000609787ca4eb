use Rattle.std.proofs.Common.{List, [], ◌∷◌, sym, subst}
use Rattle.a64_code.specs.declared.instr.XReg.{XReg}
use Rattle.a64_block.specs.declared.block.ABlock.{ABlock}
use Rattle.code_layout.specs.Conditions.{AreBegun}
use Rattle.code_layout.proofs.tests.returns_are_looked_up.Goals as goal

pub laid-requires-clause-threads : goal.laid-requires-clause-threads
laid-requires-clause-threads g c = subst (λ (l : List (ABlock XReg)). AreBegun l (0x401000 ∷ [])) (sym c.deref.ensures.value) c.in_ok-blocks.ensures.threads

pub laid-requires-clause-sites : goal.laid-requires-clause-sites
laid-requires-clause-sites g c = subst (λ (l : List (ABlock XReg)). AreBegun l (0x401005 ∷ 0x40100A ∷ [])) (sym c.deref.ensures.value) c.in_ok-blocks.ensures.sites
