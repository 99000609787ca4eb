use Rattle.ev_graph.specs.Memory.{allows}
use Rattle.a64_table.proofs.ActLemmas.{cas_answer, atomic_answer}
use Rattle.a64_table.proofs.rows.acted.Goals as goal

pub returns-in-Ldr : goal.returns-in-Ldr
returns-in-Ldr g c = rw c.in-Ldr.is (rw c.offset.ensures at (c.load.ensures c.args.input))

pub returns-in-Cas : goal.returns-in-Cas
returns-in-Cas g c =
    cas_answer c.args.state.now (allows (g.S.StartMemory.cells c.args.memory.now)) c.args.read c.args.input c.exchange.result c.in-Cas.n c.in-Cas.size
    c.in-Cas.s c.in-Cas.field-2 c.args.instr c.in-Cas.is (c.exchange.ensures c.args.input)

pub returns-in-DmbFull : goal.returns-in-DmbFull
returns-in-DmbFull g c = rw c.in-DmbFull.is (c.barrier.ensures c.args.read c.args.input)

pub returns-in-DmbLd : goal.returns-in-DmbLd
returns-in-DmbLd g c = rw c.in-DmbLd.is (c.barrier-in-DmbLd.ensures c.args.read c.args.input)

pub returns-in-DmbSt : goal.returns-in-DmbSt
returns-in-DmbSt g c = rw c.in-DmbSt.is (c.barrier-in-DmbSt.ensures c.args.read c.args.input)

pub returns-in-Swp : goal.returns-in-Swp
returns-in-Swp g c =
    atomic_answer c.args.state.now (allows (g.S.StartMemory.cells c.args.memory.now)) c.args.read c.args.input c.exchange-in-Swp.result c.in-Swp.n c.in-Swp.size
    c.in-Swp.t c.args.instr c.in-Swp.instr c.in-Swp.is c.in-Swp.instr-is (c.exchange-in-Swp.ensures c.args.input)
