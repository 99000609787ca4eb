-- The code of a program without a fault has an instruction at each reached address, and a block wherever one may begin.
use Rattle.std.proofs.Common.{◌≡◌, ◌≤◌, ◌+◌, ◌++◌, ℕ, zero, suc, min, Bool, true, false, List, take, length, ◌⊎◌, inl, inr, Some, None, Option, refl, sym, ap, subst, arith, length-take}
use Rattle.std.specs.List.{flat_map, slice_get}
use Rattle.std.proofs.lemmas.List.{take-take}
use Rattle.std.proofs.lemmas.Option.{slice_get_within}
use Rattle.ev_graph.specs.Places.{StandsIn}
use Rattle.graph_reach.proofs.Members.{stands_from_any, any_from_stands}
use Rattle.x64_syntax.specs.declared.instr.Instr.{Instr}
use Rattle.x64_syntax.specs.declared.placed.Flow.{Flow}
use Rattle.x64_syntax.specs.declared.placed.Flow.TheVariants as flow
use Rattle.x64_syntax.specs.declared.placed.Placed.{Placed}
use Rattle.x64_decode.specs.Spelling.{Spells, BeginsWithSpelling, BeginsShortSpelling, BeginsSpelling}
use Rattle.elf_read.specs.declared.fault.BadCodeKind.{BadCodeKind}
use Rattle.elf_read.specs.declared.fault.BadCodeKind.TheVariants as bad
use Rattle.elf_read.specs.declared.fault.FileFault.TheVariants.{BadCode, Indirect, Overlap}
use Rattle.code_at.specs.Code.{Program, StandsAt, IsBad, IsInCode, code_from, flow_of}
use Rattle.cfg_walk.specs.declared.code.Block.{Block}
use Rattle.cfg_walk.specs.declared.code.Code.{Code}
use Rattle.cfg_walk.specs.declared.way.Way.{Way}
use Rattle.cfg_walk.specs.declared.way.Way.TheVariants as way
use Rattle.cfg_walk.specs.Reach.{IsReached, IsPlaced, end_of}
use Rattle.cfg_walk.specs.Blocks.{IsLeader, IsStretch, IsBlock, IsSite, ends_block, led, returned_to}
use Rattle.cfg_walk.specs.Blocks.IsLeader.{at-entry, at-led}
use Rattle.cfg_walk.specs.Blocks.IsStretch.{ends, goes-on}
use Rattle.cfg_walk.specs.Code.{IsCodeOf}
use Rattle.cfg_walk.specs.Ends.{led_by}
use Rattle.cfg_walk.specs.Known.{IsKnown}
use Rattle.cfg_walk.specs.Machine.{placed_at, has_address}
use Rattle.cfg_walk.specs.Running.{IsBegun, CodeBeginsBlocks}
use Rattle.cfg_walk.specs.Ways.{way_of}
use Rattle.cfg_walk.proofs.BlockLemmas.{next, leader_reached, only}
use Rattle.cfg_walk.proofs.Found.{threads_find}
use Rattle.cfg_walk.proofs.Gathered.{leader_is}
use Rattle.cfg_walk.proofs.Tables.{jump_indirect}
use Rattle.cfg_walk.proofs.Ways.{way_led, way_returned, led_is, returned_is}

-- ---- instructions

-- the first bytes of the first 15 are first bytes
begun_by : (program : Program) (address : ℕ) → ((p : Placed) → StandsAt program address p → ⊥) → (IsBad program address bad.Listed → ⊥)
    → BeginsWithSpelling (take 15 (code_from program.parts address)) → ⊥
begun_by program address none unlisted (n, i, within, spelled) =
    let code = code_from program.parts address in
    let count : length (take 15 code) ≡ min 15 (length code) = length-take 15 code in
    let few : n ≤ 15 = omega (arith, count, within) in
    none (record { address = address; length = n; instr = i; flow = flow_of program (address + n) i }) (record {
      here = refl;
      unlisted = unlisted;
      short = few;
      within = omega (arith, count, within);
      spelled = subst (λ bytes. Spells bytes i) (take-take n 15 code few) spelled;
      flows = refl;
    })

-- at each address an instruction stands, or there is a reason why none does
told : (program : Program) (address : ℕ) → ((p : Placed) → StandsAt program address p → ⊥) → ((kind : BadCodeKind) → IsBad program address kind → ⊥) → ⊥
told program address none fine = fine bad.Outside (fine bad.Listed, in_code)
  where
    in_code : IsInCode program.parts address → ⊥
    in_code inside =
        let bytes = take 15 (code_from program.parts address) in
        let begins : BeginsWithSpelling bytes → ⊥ = begun_by program address none (fine bad.Listed) in
        let short : BeginsShortSpelling bytes → ⊥ = λ more. fine bad.Cut (record { unlisted = fine bad.Listed; inside = inside; refused = (begins, more) }) in
        let long : BeginsSpelling bytes → ⊥ = λ more. fine bad.TooLong (record { unlisted = fine bad.Listed; inside = inside; refused = (begins, short, more) }) in
        fine bad.Unknown (record { unlisted = fine bad.Listed; inside = inside; refused = (begins, long) })

-- an instruction is placed at each reached address
pub whole : (program : Program) (code : Code) → IsCodeOf program code → (a : ℕ) → IsReached program a → (p : Placed) × IsPlaced program p × (p.address ≡ a)
whole program code is a reached = by_found (placed_at code.placed a) refl
  where
    by_found : (found : Option Placed) → placed_at code.placed a ≡ found → (p : Placed) × IsPlaced program p × (p.address ≡ a)
    by_found (Some p) e = let there = ((threads_find program code is).placed a p).0 e in (p, there.0, there.1)
    by_found None e =
        let none : (p : Placed) → StandsAt program a p → ⊥ = λ p stands.
        (let placed : IsPlaced program p = record {
          reached = subst (IsReached program) (sym stands.here) reached;
          stands = subst (λ x. StandsAt program x p) (sym stands.here) stands;
        } in
        let found = ((threads_find program code is).placed a p).1 (placed, stands.here) in
        absurd (cc)) in
        absurd (told program a none
        (λ kind no_it. is.clear (BadCode (record { address = a; kind = kind })) (omega arith) (omega arith) (record { reached = reached; bad = no_it })))

-- so its instructions are known
pub known_code : (program : Program) (code : Code) → IsCodeOf program code → IsKnown program code.placed
known_code program code is = record {
  instructions = is.placed;
  whole = whole program code is;
  apart = λ a inside. is.clear (Overlap a) (omega arith) (omega arith) inside;
  no_table = λ a table reached begins. is.clear (Indirect table.jump) (omega arith) (omega arith) (jump_indirect program a table reached begins);
}

-- ---- blocks

-- whether a block begins at an address can be told
leader_or_not : (program : Program) (placed : List Placed) → IsKnown program placed → (a : ℕ) → IsLeader program a ⊎ (IsLeader program a → ⊥)
leader_or_not program placed known a = by_test (has_address leaders a) refl
  where
    leaders : List ℕ
    leaders = program.entries ++ flat_map led_by placed

    by_test : (b : Bool) → has_address leaders a ≡ b → IsLeader program a ⊎ (IsLeader program a → ⊥)
    by_test true e = inl ((leader_is program placed known a).0 (stands_from_any leaders a e))
    by_test false e = inr (λ is. let has = any_from_stands leaders a ((leader_is program placed known a).1 is) in absurd (cc))

-- from each placed instruction on so many stand one behind the other until a block ends or begins
stretch_from : (program : Program) (placed : List Placed) → IsKnown program placed → (left k : ℕ) (p : Placed) → slice_get placed k ≡ Some p → length placed ≤ k + left
    → (n : ℕ) × IsStretch program p.address n
stretch_from program placed known zero k p at le = absurd (let within = slice_get_within placed k p at in omega (arith, within, le))
stretch_from program placed known (suc left) k p at le =
    by_end (ends_block p.instr) refl (λ q at_q. stretch_from program placed known left (suc k) q at_q (omega (arith, le)))
  where
    is : IsPlaced program p
    is = (known.instructions.exact p).0 (k, at)

    by_end : (b : Bool) → ends_block p.instr ≡ b → ((q : Placed) → slice_get placed (suc k) ≡ Some q → (n : ℕ) × IsStretch program q.address n) → (n : ℕ) × IsStretch program p.address n
    by_end true e behind = (1, ends p is (inl e))
    by_end false e behind =
        let there = next program placed known k p at e in
        elim (leader_or_not program placed known (end_of p)) [
          | inl leader ↦ (1, ends p is (inr leader))
          | inr none ↦
              (let rest = behind there.0 there.1 in
              (suc rest.0, goes-on p is e none (subst (λ a. IsStretch program a rest.0) there.2 rest.1)))
        ]

-- where a block may begin one does
pub leader_begins : (program : Program) (code : Code) → IsCodeOf program code → (a : ℕ) → IsLeader program a → IsBegun code a
leader_begins program code is a leader =
    let known = known_code program code is in
    let there = known.whole a (leader_reached program a leader) in
    let p = there.0 in
    let place = (is.placed.exact p).1 there.1 in
    let stretch = stretch_from program code.placed known (length code.placed) place.0 p place.1 (omega arith) in
    let b : Block = record { first = p.address; count = stretch.0 } in
    let block : IsBlock program b = record { leader = subst (IsLeader program) (sym there.2) leader; stretch = stretch.1 } in
    (b, (is.blocks.exact b).1 block, there.2)

-- a call leads to where it returns
returned_led : (i : Instr) (f : Flow) (end b : ℕ) → StandsIn (returned_to i f end) b → StandsIn (led i f end) b
returned_led i f end b at =
    subst (λ xs. StandsIn xs b) (sym (led_is i f end)) (by_way (way_of i end) f (subst (λ xs. StandsIn xs b) (returned_is i f end) at))
  where
    by_way : (w : Way) (f : Flow) → StandsIn (way_returned w f end) b → StandsIn (way_led w f end) b
    by_way (way.Calls target) flow.Plain behind = (suc zero, ap (λ (x : ℕ). Some x) (sym (only end b behind.0 behind.1)))
    by_way (way.Calls target) f behind = absurd (let none = behind.1 in cc)
    by_way w f behind = absurd (let none = behind.1 in cc)

-- a return site is where a block may begin
pub site_leads : (program : Program) (a : ℕ) → IsSite program a → IsLeader program a
site_leads program a site = at-led site.p site.placed (returned_led site.p.instr site.p.flow (end_of site.p) a site.behind)

pub code_begins : CodeBeginsBlocks
code_begins program code is = record {
  entries = λ a entry. leader_begins program code is a (at-entry entry);
  sites = λ a site. leader_begins program code is a (site_leads program a site);
}
