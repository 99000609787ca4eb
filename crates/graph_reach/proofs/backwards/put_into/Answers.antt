use Rattle.std.proofs.Common.{◌∙◌, sym}
use Rattle.std.proofs.lemmas.Option.{slice_get-get_or}
use Rattle.graph_reach.specs.Backwards.{lists_of}
use Rattle.graph_reach.proofs.TurnedEdges.{into_more, into_other, length-lists_of}
use Rattle.graph_reach.proofs.backwards.put_into.Goals as goal
use Rattle.graph_reach.proofs.backwards.put_into.Goals.{in-Some+in_ok-put_at, in_default}

pub loop-other-preserved : goal.loop-other-preserved
loop-other-preserved c =
    let nodes = c.args.nodes.now in
    let successors = c.args.successors.now in
    let j = c.loop-other.other-index in
    let next = slice_get-get_or successors j 0 c.loop-other-test.true in
    let before = c.loop-other.invariant in
    elim c.match-place_of.branch [
      | in-Some+in_ok-put_at w ↦ rw w.lists-is (
          let adds = w.in_ok-put_at.ensures in
          record {
            adds = into_more nodes c.args.node successors j _ w.in-Some.place (lists_of c.args.lists.now.items) (lists_of c.loop-other.lists.items) (lists_of w.put_at.new.lists.items) c.requires.once before.adds next w.in-Some.ensures.some adds;
            long = before.long ∙ sym (length-lists_of c.loop-other.lists.items) ∙ sym adds.long ∙ length-lists_of w.put_at.new.lists.items;
          })
      | in_default w ↦ rw w.lists-is (record {
        adds = into_other nodes c.args.node successors j _ (lists_of c.args.lists.now.items) (lists_of c.loop-other.lists.items) before.adds next w.in_default.ensures.none;
        long = before.long;
      })
    ]
