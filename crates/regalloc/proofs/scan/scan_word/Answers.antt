use Rattle.std.proofs.Common.{◌≡◌, ℕ, nat_eq, Some, None, sym, ◌∙◌, arith}
use Rattle.indexmap.specs.IndexMap.{get}
use Rattle.a64_table.specs.Rows.{a64_result}
use Rattle.a64_block.specs.Registers.{numbers}
use Rattle.regalloc.proofs.Scanning.{scanned_on, scanned_gives, result_lasts, is_none, has_slot}
use Rattle.regalloc.proofs.FreeSlots.{has_free}
use Rattle.regalloc.proofs.scan.scan_word.Goals as goal
use Rattle.regalloc.proofs.scan.scan_word.Goals.{then-number-le-ZERO-via-then-number-le-ZERO, then-number-le-ZERO-via-else-number-le-ZERO+then-contains_key}

pub returns-in_default : goal.returns-in_default
returns-in_default c =
    let block = c.args.block.now in
    scanned_on block.end block.steps _ _ c.args.at c.args.word c.requires.stands c.requires.scanned
    (λ r is high. absurd (let e : None ≡ Some r = sym c.in_default.is ∙ c.result_of.ensures ∙ is in cc))

pub returns-then-number-le-ZERO : goal.returns-then-number-le-ZERO
returns-then-number-le-ZERO c =
    let block = c.args.block.now in
    let slots = get nat_eq c.args.state.now.slots in
    let number = c.in-Some.number in
    let other : (r : ℕ) → a64_result numbers c.args.word ≡ Some r → number ≡ r = λ r is. (let e : Some number ≡ Some r = sym c.in-Some.is ∙ c.result_of.ensures ∙ is in cc) in
    scanned_on block.end block.steps _ _ c.args.at c.args.word c.requires.stands c.requires.scanned
    (λ r is high. elim c.then-number-le-ZERO.branch [
      | then-number-le-ZERO-via-then-number-le-ZERO w ↦ absurd (omega (arith, other r is, high, w.if-number-le-ZERO.true))
      | then-number-le-ZERO-via-else-number-le-ZERO+then-contains_key w ↦ has_slot slots number r (other r is) (w.if-contains_key.ensures)
    ])

pub free_slot-slot-requires : goal.free_slot-slot-requires
free_slot-slot-requires c =
    let block = c.args.block.now in
    has_free block.end block.steps _ _ c.args.at c.args.word c.requires.stands c.requires.scanned c.requires.few c.in-Some.number (sym c.result_of.ensures ∙ c.in-Some.is)
    c.if-number-le-ZERO.false (is_none _ c.if-contains_key.ensures)

pub last_use-requires : goal.last_use-requires
last_use-requires c =
    let block = c.args.block.now in
    result_lasts block.end block.steps _ c.requires.last c.args.at c.args.word c.requires.stands c.in-Some.number (sym c.result_of.ensures ∙ c.in-Some.is) c.if-number-le-ZERO.false

pub returns : goal.returns
returns c =
    let block = c.args.block.now in
    scanned_gives block.end block.steps _ c.requires.last _ c.args.state.now.until c.args.at c.args.word c.requires.stands c.requires.scanned
    c.in-Some.number (sym c.result_of.ensures ∙ c.in-Some.is) c.if-number-le-ZERO.false (is_none _ c.if-contains_key.ensures)
    c.free_slot-slot.result c.free_slot-slot.ensures.within c.free_slot-slot.ensures.free c.last_use.result c.last_use.ensures
    _ c.in_ok-insert.ensures.updates.1 c.in_ok-insert.ensures.updates.2
