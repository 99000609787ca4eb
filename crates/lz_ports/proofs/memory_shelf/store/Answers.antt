use Rattle.std.proofs.Common.{◌≡◌, ◌<◌, ◌∙◌, ap, sym, arith, length, List, [], ◌∷◌, ◌++◌}
use Rattle.std.specs.Prelude.{Some, None, slice_set}
use Rattle.lz_ports.specs.Memories.{Named, place_of}
use Rattle.lz_ports.proofs.Stored.{place_within, file_replaced, file_added}
use Rattle.lz_ports.proofs.memory_shelf.store.Goals as goal

pub index_mut-requires : goal.index_mut-requires
index_mut-requires c =
    let within : c.in-Some.place < length c.deref.result.now = place_within c.deref.result.now c.args.name.now c.in-Some.place (sym c.in-Some.ensures) in
    omega (arith, within, c.deref.ensures.len)

pub returns-in-Some-clause-ok : goal.returns-in-Some-clause-ok
returns-in-Some-clause-ok c =
    let found : place_of c.args.files.now.items c.args.name.now ≡ Some c.in-Some.place =
    ap (λ (files : List Named). place_of files c.args.name.now) (sym c.deref.ensures.value) ∙ sym c.in-Some.ensures in
    ap (λ (file : Named). slice_set c.args.files.now.items c.in-Some.place file) c.in_ok-file.ensures
    ∙ file_replaced c.args.files.now.items c.args.name.now c.args.bytes.now c.in-Some.place found

pub returns-in_ok-push-in-None-clause-ok : goal.returns-in_ok-push-in-None-clause-ok
returns-in_ok-push-in-None-clause-ok c =
    let absent : place_of c.args.files.now.items c.args.name.now ≡ None =
    ap (λ (files : List Named). place_of files c.args.name.now) (sym c.deref.ensures.value) ∙ sym c.in-None.ensures in
    c.in_ok-push-in-None.ensures.items ∙ ap (λ (file : Named). c.args.files.now.items ++ file ∷ []) c.in_ok-file.ensures
    ∙ file_added c.args.files.now.items c.args.name.now c.args.bytes.now absent
