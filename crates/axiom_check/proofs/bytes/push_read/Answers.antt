use Rattle.std.proofs.Common.{◌≡◌, ℕ, List, Some, length, subst}
use Rattle.std.specs.List.{slice_get}
use Rattle.ev_graph.specs.declared.execution.Source.{Source}
use Rattle.axiom_check.specs.Gains.{Gains, Below}
use Rattle.axiom_check.specs.Bytes.{IsKnown, IsReadSource}
use Rattle.axiom_check.proofs.BytesLemmas.{gains_found}
use Rattle.axiom_check.proofs.bytes.push_read.Goals as goal

pub returns : goal.returns
returns c = λ co e once places known.
    let all = c.args.events.now.accesses.items in
    let found = c.in-Some.found in
    let writers = c.args.writers in
    let Turn : List Source → Type 0 = λ bytes. ((k : ℕ) (source : Source) → slice_get bytes k ≡ Some source → IsKnown all co source)
    → Gains (Below bytes (IsReadSource co writers.within writers.threads found.number found.access) (length bytes)) c.args.sources.now.items c.push_read_bytes.new.sources.items in
    let turn = subst Turn c.as_slice.ensures (λ known_here. c.in_ok-push_read_bytes.ensures co once places known_here) known in
    gains_found all c.args.events.now.firsts.items c.requires.numbered c.args.entry.now.read found.number found.access
    (λ n a. Below c.args.entry.now.bytes (IsReadSource co writers.within writers.threads n a) (length c.args.entry.now.bytes)) _ _ c.in-Some.ensures.some turn
