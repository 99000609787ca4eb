use Rattle.std.proofs.Common.{◌∙◌, ℕ, List, refl, inl, subst}
use Rattle.lasagne.specs.Command.{World, EndsWritten, IsUnder}
use Rattle.lasagne.specs.Texts.{translated_line}
use Rattle.lasagne.proofs.Carried.{image_for}
use Rattle.lasagne.proofs.Endings.{longer_refused, fault_refused, read_same, translate_refused, translate_ends, put_ends, written_before}
use Rattle.lasagne.proofs.command.translate_command.Goals as goal

pub returns-in-Err-TooLong : goal.returns-in-Err-TooLong
returns-in-Err-TooLong g c =
    translate_refused c.refuse.result c.args.from.now c.args.to.now _ _ _
    (longer_refused _ c.args.from.now 67108864 _ _ refl (c.in-Err-TooLong.ensures.too_long (cc))) c.in-Err-TooLong.ensures.same c.refuse.ensures

pub returns-in-Err-File : goal.returns-in-Err-File
returns-in-Err-File g c =
    translate_refused c.refuse-in-Err-File.result c.args.from.now c.args.to.now _ _ c.in-Err-File.fault
    (fault_refused _ c.args.from.now c.in-Ok.bytes.items c.deref.result.now c.in-Err-File.fault c.deref.ensures.value (c.in-Err-File.ensures.refused c.in-Err-File.fault (cc)) c.in-Ok.ensures.bytes)
    c.in-Ok.ensures.same c.refuse-in-Err-File.ensures

pub returns-in_default : goal.returns-in_default
returns-in_default g c = (refl, inl c.in-Ok.ensures.same)

pub returns : goal.returns
returns g c =
    let e = c.in-Ok-translate.ensures in
    let made = c.in-Ok-translate.made in
    let input = c.deref.result.now in
    let whole = image_for input made e.private e.carries e.follows e.barriers e.jumps e.flags e.few e.summary in
    let before : World =
    record {
      files = g.H.Shelf.files c.args.shelf.now;
      taken = g.O.Sink.taken c.args.out.now;
      get_faults = g.H.Shelf.get_faults c.args.shelf.now;
      put_faults = g.H.Shelf.put_faults c.args.shelf.now;
      sink_faults = g.O.Sink.faults c.args.out.now;
    } in
    let read : World =
    record before { files = g.H.Shelf.files c.get.new.self; get_faults = g.H.Shelf.get_faults c.get.new.self; put_faults = g.H.Shelf.put_faults c.get.new.self } in
    let after : World =
    record {
      files = g.H.Shelf.files c.put_image.new.shelf;
      taken = g.O.Sink.taken c.put_image.new.out;
      get_faults = g.H.Shelf.get_faults c.put_image.new.shelf;
      put_faults = g.H.Shelf.put_faults c.put_image.new.shelf;
      sink_faults = g.O.Sink.faults c.put_image.new.out;
    } in
    let ends = subst (λ (image : List ℕ). EndsWritten c.put_image.result image c.args.to.now c.as_bytes.result.now read after) c.as_slice.ensures c.put_image.ensures in
    translate_ends c.put_image.result c.args.from.now c.args.to.now before after
    (put_ends c.put_image.result (IsUnder c.args.from.now before) input made.file c.args.to.now c.as_bytes.result.now made.summary translated_line before after
    (read_same before.files c.args.from.now c.in-Ok.bytes.items input c.deref.ensures.value c.in-Ok.ensures.bytes) whole.0 whole.1
    (c.as_bytes.ensures.value ∙ c.in-Ok-translated_line.ensures)
    (written_before c.put_image.result made.file c.args.to.now c.as_bytes.result.now before read after c.in-Ok.ensures.same refl c.in-Ok.ensures.no_put refl ends))
