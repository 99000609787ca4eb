use Rattle.std.proofs.Common.{◌∙◌, ℕ, List, subst}
use Rattle.lasagne.specs.Command.{World, EndsWritten, IsMade}
use Rattle.lasagne.specs.Texts.{tried_line, try_name}
use Rattle.lasagne.proofs.Carried.{image_for}
use Rattle.lasagne.proofs.Endings.{never_refused, put_ends}
use Rattle.lasagne.proofs.command.try_command.Goals as goal

pub unreachable-requires : goal.unreachable-requires
unreachable-requires g c =
    never_refused c.args.rounds c.requires.some c.requires.few c.deref.result.now (c.deref.ensures.value ∙ c.in-Ok.ensures.bytes) c.in-Err-File._why
    (c.in-Err-File.ensures.refused c.in-Err-File._why (cc))

pub returns : goal.returns
returns g c =
    let e = c.in-Ok-translate.ensures in
    let made = c.in-Ok-translate.made in
    let input = c.deref.result.now in
    let whole = image_for input made e.private e.carries e.follows e.barriers e.jumps e.flags e.few e.summary in
    let before : World =
    record {
      files = g.H.Shelf.files c.args.shelf.now;
      taken = g.O.Sink.taken c.args.out.now;
      get_faults = g.H.Shelf.get_faults c.args.shelf.now;
      put_faults = g.H.Shelf.put_faults c.args.shelf.now;
      sink_faults = g.O.Sink.faults c.args.out.now;
    } in
    let after : World =
    record {
      files = g.H.Shelf.files c.put_image.new.shelf;
      taken = g.O.Sink.taken c.put_image.new.out;
      get_faults = g.H.Shelf.get_faults c.put_image.new.shelf;
      put_faults = g.H.Shelf.put_faults c.put_image.new.shelf;
      sink_faults = g.O.Sink.faults c.put_image.new.out;
    } in
    let ends = subst (λ (image : List ℕ). EndsWritten c.put_image.result image try_name c.as_bytes.result.now before after) c.as_slice.ensures c.put_image.ensures in
    put_ends c.put_image.result (IsMade c.args.rounds) input made.file try_name c.as_bytes.result.now made.summary (tried_line c.args.rounds) before after
    (c.deref.ensures.value ∙ c.in-Ok.ensures.bytes) whole.0 whole.1 (c.as_bytes.ensures.value ∙ c.in-Ok-tried_line.ensures) ends
