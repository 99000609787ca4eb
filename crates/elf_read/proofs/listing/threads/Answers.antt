use Rattle.std.proofs.Common.{arith}
use Rattle.elf_read.specs.Listed.{listed_value}
use Rattle.elf_read.specs.declared.listed.Listed.TheVariants.{Thread}
use Rattle.elf_read.proofs.ListingLemmas.{threads_end, threads_more, threads_all}
use Rattle.elf_read.proofs.listing.threads.Goals as goal

pub returns-in_default : goal.returns-in_default
returns-in_default c =
    threads_end (λ k. listed_value c.args.listing.now (Thread k)) c.loop-number.number _ _ (omega arith) (cc) c.loop-number.invariant

pub loop-number-preserved : goal.loop-number-preserved
loop-number-preserved c =
    let pushed = c.in_ok-push.ensures.items in
    rw pushed (threads_more (λ k. listed_value c.args.listing.now (Thread k)) c.loop-number.number _ _ _ (omega arith) (cc) c.loop-number.invariant)

pub returns : goal.returns
returns c = threads_all (λ k. listed_value c.args.listing.now (Thread k)) c.loop-number.number _ _ (omega arith) c.loop-number.invariant
