use Rattle.std.proofs.Common.{◌≡◌}
use Rattle.elf_read.specs.Fields.{st_name}
use Rattle.elf_read.proofs.ListedLemmas.{unlisted, told}
use Rattle.elf_read.proofs.symbols.listed_at.Goals as goal

pub returns-clause-none : goal.returns-clause-none
returns-clause-none c =
    let at : c.from.result ≡ st_name c.args.symbols.now c.args.at = cc in
    unlisted _ _ _ _ _ (rw (← at) c.name_window.ensures) c.as_listed.ensures.none

pub returns-clause-some : goal.returns-clause-some
returns-clause-some c =
    let at : c.from.result ≡ st_name c.args.symbols.now c.args.at = cc in
    told _ _ _ _ _ (cc) (rw (← at) c.name_window.ensures) c.as_listed.ensures.some
