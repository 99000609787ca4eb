use Rattle.std.proofs.Common.{◌/◌, ◌∙◌, ap, length}
use Rattle.lz_ports.specs.Memories.{ShelfState, with_file, first_half}
use Rattle.lz_ports.proofs.Stored.{put_in_memory, torn_in_memory}
use Rattle.lz_ports.proofs.memory_shelf.MemShelfShelf.put.Goals as goal

pub returns-in_ok-keep-in-Listed-clause-failed : goal.returns-in_ok-keep-in-Listed-clause-failed
returns-in_ok-keep-in-Listed-clause-failed c e =
    torn_in_memory c.args.self.now.files _ c.args.name.now c.args.bytes.now (length c.args.bytes.now / 2)
    (ap (λ (s : ShelfState). s.files) c.in_ok-keep-in-Listed.ensures.ok
    ∙ ap (λ (s : ShelfState). with_file s.files c.args.name.now (first_half c.args.bytes.now)) (c.self.view_is ∙ c.in-Listed.ensures.counted.2))

pub returns-in_ok-keep-in-Fine-clause-ok : goal.returns-in_ok-keep-in-Fine-clause-ok
returns-in_ok-keep-in-Fine-clause-ok c =
    put_in_memory c.args.self.now.files _ c.args.name.now c.args.bytes.now
    (ap (λ (s : ShelfState). s.files) c.in_ok-keep-in-Fine.ensures.ok
    ∙ ap (λ (s : ShelfState). with_file s.files c.args.name.now c.args.bytes.now) c.in-Fine.ensures.counted.2)
