use Rattle.std.proofs.Common.{◌≡◌, ◌∙◌, List, ap, refl}
use Rattle.lz_ports.specs.Ports.{Told, Took, TookPart}
use Rattle.carry_spec.specs.declared.plan.BlockPlan.{BlockPlan}
use Rattle.lasagne.specs.Command.{World}
use Rattle.lasagne.specs.Plan.{plan_text}
use Rattle.lasagne.proofs.PlanLemmas.{has_plan}
use Rattle.lasagne.proofs.Endings.{longer_refused, fault_refused, plan_refused, of_plan, took_line, took_part}
use Rattle.lasagne.proofs.command.plan_command.Goals as goal

pub returns-in-Err-TooLong : goal.returns-in-Err-TooLong
returns-in-Err-TooLong g c =
    plan_refused c.refuse.result c.args.from.now _ _ _ (longer_refused _ c.args.from.now 67108864 _ _ refl (c.in-Err-TooLong.ensures.too_long (cc)))
    c.in-Err-TooLong.ensures.same c.refuse.ensures

pub returns-in-Err-File : goal.returns-in-Err-File
returns-in-Err-File g c =
    plan_refused c.refuse-in-Err-File.result c.args.from.now _ _ c.in-Err-File.why
    (fault_refused _ c.args.from.now c.in-Ok.bytes.items c.deref.result.now c.in-Err-File.why c.deref.ensures.value
    (c.in-Err-File.ensures.refused c.in-Err-File.why (cc)) c.in-Ok.ensures.bytes)
    c.in-Ok.ensures.same c.refuse-in-Err-File.ensures

pub returns-in-Ok-write_all : goal.returns-in-Ok-write_all
returns-in-Ok-write_all g c =
    let e = c.in-Ok-translate.ensures in
    let made = c.in-Ok-translate.made in
    let input = c.deref.result.now in
    let files = g.H.Shelf.files in
    let taken = g.O.Sink.taken in
    let gets = g.H.Shelf.get_faults in
    let puts = g.H.Shelf.put_faults in
    let fails = g.O.Sink.faults in
    let before : World =
    record { files = files c.args.shelf.now; taken = taken c.args.out.now; get_faults = gets c.args.shelf.now; put_faults = puts c.args.shelf.now; sink_faults = fails c.args.out.now } in
    let after : World =
    record { files = files c.get.new.self; taken = taken c.write_all.new.self; get_faults = gets c.get.new.self; put_faults = puts c.get.new.self; sink_faults = fails c.write_all.new.self } in
    let is_text : c.as_bytes.result.now ≡ plan_text made.plan made.summary =
    c.as_bytes.ensures.value ∙ c.in-Ok-plan_text.ensures ∙ ap (λ (plan : List BlockPlan). plan_text plan made.summary) c.as_slice.ensures in
    of_plan (λ text. Told before.taken after.taken (Took text)) c.args.from.now before after c.in-Ok.bytes.items input made.plan made.summary
    c.in-Ok.ensures.same c.deref.ensures.value c.in-Ok.ensures.bytes
    (has_plan input made.private.slots made.code made.plan made.summary e.private e.carries.carries.no_fault e.code e.plan e.summary)
    (took_line _ _ c.as_bytes.result.now _ is_text c.in-Ok-write_all.ensures.ok)

pub returns-in-Err-Failed-write_all : goal.returns-in-Err-Failed-write_all
returns-in-Err-Failed-write_all g c =
    let e = c.in-Ok-translate.ensures in
    let made = c.in-Ok-translate.made in
    let input = c.deref.result.now in
    let files = g.H.Shelf.files in
    let taken = g.O.Sink.taken in
    let gets = g.H.Shelf.get_faults in
    let puts = g.H.Shelf.put_faults in
    let fails = g.O.Sink.faults in
    let before : World =
    record { files = files c.args.shelf.now; taken = taken c.args.out.now; get_faults = gets c.args.shelf.now; put_faults = puts c.args.shelf.now; sink_faults = fails c.args.out.now } in
    let after : World =
    record { files = files c.get.new.self; taken = taken c.write_all.new.self; get_faults = gets c.get.new.self; put_faults = puts c.get.new.self; sink_faults = fails c.write_all.new.self } in
    let is_text : c.as_bytes.result.now ≡ plan_text made.plan made.summary =
    c.as_bytes.ensures.value ∙ c.in-Ok-plan_text.ensures ∙ ap (λ (plan : List BlockPlan). plan_text plan made.summary) c.as_slice.ensures in (
      c.in-Err-Failed-write_all.ensures.cause.cause (cc),
      of_plan (λ text. Told before.taken after.taken (TookPart text)) c.args.from.now before after c.in-Ok.bytes.items input made.plan made.summary
          c.in-Ok.ensures.same c.deref.ensures.value c.in-Ok.ensures.bytes
          (has_plan input made.private.slots made.code made.plan made.summary e.private e.carries.carries.no_fault e.code e.plan e.summary)
          (took_part _ _ c.as_bytes.result.now _ is_text (c.in-Err-Failed-write_all.ensures.failed (cc))),
    )
