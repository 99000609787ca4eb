-- How many words the blocks of recovered code take, and how many return sites it has.
use Rattle.std.proofs.Common.{◌≡◌, ◌<◌, ◌≤◌, ◌+◌, ◌*◌, ℕ, zero, suc, List, [], ◌∷◌, length, drop, take, map, ◌⊎◌, inl, inr, Some, refl, sym, ap, subst, ◌∙◌, arith}
use Rattle.std.specs.Prelude.{sum_by, slice_get}
use Rattle.std.specs.Option.{option_map}
use Rattle.std.proofs.lemmas.Bool.{cases_lt}
use Rattle.std.proofs.lemmas.List.{length-map, take_all}
use Rattle.std.proofs.lemmas.List.Sums.{sum_by-cons}
use Rattle.std.proofs.lemmas.Option.{slice_get-map}
use Rattle.ev_graph.specs.Places.{StandsIn}
use Rattle.x64_syntax.specs.declared.instr.Instr.{Instr}
use Rattle.x64_syntax.specs.declared.instr.Instr.TheVariants as instr
use Rattle.x64_syntax.specs.declared.placed.Flow.{Flow}
use Rattle.x64_syntax.specs.declared.placed.Flow.TheVariants as flow
use Rattle.x64_syntax.specs.declared.placed.Placed.{Placed}
use Rattle.x64_syntax.specs.declared.slots.Slot.{Slot}
use Rattle.code_at.specs.Code.{Program}
use Rattle.cfg_walk.specs.declared.code.Block.{Block}
use Rattle.cfg_walk.specs.declared.code.Code.{Code}
use Rattle.cfg_walk.specs.Reach.{end_of}
use Rattle.cfg_walk.specs.Blocks.{AreOf, returned_to}
use Rattle.cfg_walk.specs.Code.{IsIncreasing, IsCodeOf}
use Rattle.cfg_walk.proofs.CallerLemmas.{known_code, have_instructions, one_of_block}
use Rattle.lift_alu.specs.Meant as meant
use Rattle.lift_alu.specs.Meant.{words_of, most_words, after}
use Rattle.lift.specs.Block.{end_from}
use Rattle.lift.specs.Recovered.{AreOfBlock}
use Rattle.lift.proofs.CallerLemmas.{some_same, there, few_placed}
use Rattle.isel.specs.Groups.{selected_end}
use Rattle.a64_code.specs.declared.instr.XReg.{XReg}
use Rattle.a64_block.specs.declared.block.AEnd.{AEnd}
use Rattle.a64_block.specs.declared.block.AEnd.TheVariants as ends
use Rattle.a64_block.specs.declared.block.ABlock.{ABlock}
use Rattle.a64_block.specs.Renamed.{renamed_end}
use Rattle.code_layout.specs.Places.{end_size, block_size, blocks_size}
use Rattle.code_layout.proofs.Literals.{all_at}
use Rattle.a64_block.specs.Barriers.{barriers_in}
use Rattle.fence_place.specs.Marked.{marked}
use Rattle.carry_spec.specs.Plan.{AreOfEach, block_gaps}
use Rattle.translate_core.specs.Passed.{ArePassed, IsPassed, IsWithin, gap_barriers}
use Rattle.translate_core.proofs.Apart.{once, tail_sorted, sum_from, sum_later, begun_in, blocks_apart}

-- ---- what one instruction pays for

-- 64 words are kept for an instruction; of those of a call, 15 are for its return site, and the others for its block
abbrev block_share_of : Instr → Flow → ℕ
block_share_of (instr.Call d) flow.Plain = 49
block_share_of i f = 64

abbrev block_share : Placed → ℕ
block_share p = block_share_of p.instr p.flow

abbrev site_share : Placed → ℕ
site_share p = 15 * length (returned_to p.instr p.flow (end_of p))

shares : (i : Instr) (f : Flow) (end : ℕ) → block_share_of i f + 15 * length (returned_to i f end) ≡ 64
shares (instr.Call d) flow.Plain end = refl
shares (instr.Call d) f end = refl
shares i f end = refl

all_shares : (ps : List Placed) → sum_by block_share ps + sum_by site_share ps ≡ 64 * length ps
all_shares [] = refl
all_shares (p ∷ ps) =
    let rest = all_shares ps in
    let one : block_share p + site_share p ≡ 64 = shares p.instr p.flow (end_of p) in
    let first = sum_by-cons block_share p ps in
    let other = sum_by-cons site_share p ps in
    omega (arith, rest, one, first, other)

-- ---- the words of one block

-- an instruction and the end of the block that ends with it take no more words than are kept for it
end_fits : (i : Instr) (f : Flow) (to temps : ℕ) → words_of i + end_size (selected_end (meant.end_from i f to temps)) ≤ block_share_of i f
end_fits (instr.Call d) flow.Plain to temps = omega arith
end_fits (instr.Call d) f to temps = omega arith
end_fits (instr.Jmp d) flow.Plain to temps = omega arith
end_fits (instr.Jmp d) flow.ListedIn to temps = omega arith
end_fits (instr.Jmp d) flow.ListedOut to temps = omega arith
end_fits (instr.Jmp d) f to temps = omega arith
end_fits (instr.Jcc c d) f to temps = omega arith
end_fits instr.Ret f to temps = omega arith
end_fits instr.Ud2 f to temps = omega arith
end_fits i f to temps = omega arith

-- so do instructions that stand one behind the other
part_fits : (temps : ℕ) (p : Placed) (ps : List Placed) → sum_by most_words (p ∷ ps) + end_size (selected_end (end_from temps (p ∷ ps))) ≤ sum_by block_share (p ∷ ps)
part_fits temps p [] =
    let one : most_words p + end_size (selected_end (end_from temps (p ∷ []))) ≤ block_share p = end_fits p.instr p.flow (after p) temps in
    let words = sum_by-cons most_words p [] in
    let kept = sum_by-cons block_share p [] in
    let no_words : sum_by most_words [] ≡ 0 = refl in
    omega (arith, one, words, kept, no_words)
part_fits temps p (q ∷ ps) =
    let rest : sum_by most_words (q ∷ ps) + end_size (selected_end (end_from temps (p ∷ q ∷ ps))) ≤ sum_by block_share (q ∷ ps) = part_fits (temps + 256) q ps in
    let one = end_fits p.instr p.flow (after p) temps in
    let words = sum_by-cons most_words p (q ∷ ps) in
    let kept = sum_by-cons block_share p (q ∷ ps) in
    omega (arith, rest, one, words, kept)

same_end_size : {R S : Type 0} (g : R → S) (end : AEnd R) → end_size (renamed_end g end) ≡ end_size end
same_end_size g (ends.Goto a) = refl
same_end_size g (ends.Branch r a b) = refl
same_end_size g (ends.Return r) = refl
same_end_size g (ends.Indexed r table) = refl
same_end_size g (ends.Stop kind) = refl

block_fits : (ps : List Placed) (b : ABlock XReg) → 0 < length ps → IsWithin ps b → block_size b ≤ sum_by block_share ps
block_fits [] b some within = absurd (omega (arith, some))
block_fits (p ∷ ps) b some within =
    let (g, same) = within.end in
    let size : end_size b.end ≡ end_size (selected_end (end_from 0 (p ∷ ps))) = ap end_size same ∙ same_end_size g (selected_end (end_from 0 (p ∷ ps))) in
    let all = part_fits 0 p ps in
    let few = within.few in
    omega (arith, size, all, few)

-- ---- recovered code

module _ (program : Program) (code : Code) (is : IsCodeOf program code) where
  -- ---- return sites

  -- an instruction that ends earlier stands earlier
  ends_earlier : (i j : ℕ) (p q : Placed) → slice_get code.placed i ≡ Some p → slice_get code.placed j ≡ Some q → end_of p < end_of q → i < j
  ends_earlier i j p q at other less = by (cases_lt i j) (cases_lt j i)
    where
      by : (i < j) ⊎ (j ≤ i) → (j < i) ⊎ (i ≤ j) → i < j
      by (inl before) either = before
      by (inr le) (inl before) =
          let down = is.placed.sorted j i q.address p.address before (there code.placed is.placed.sorted j q other) (there code.placed is.placed.sorted i p at) in
          absurd ((known_code program code is).apart p.address (record {
            p = p;
            placed = (is.placed.exact p).0 (i, at);
            here = refl;
            other = q;
            other_placed = (is.placed.exact q).0 (j, other);
            behind = down;
            inside = omega (arith, less);
          }))
      by (inr le) (inr ge) =
          let same : i ≡ j = omega (arith, ge, le) in
          let one : p ≡ q = some_same (sym at ∙ ap (slice_get code.placed) same ∙ other) in
          let level : end_of p ≡ end_of q = ap end_of one in
          absurd (omega (arith, less, level))

  -- a call that pays for a return site stands at the place or behind it
  record Pays (from site : ℕ) : Type 0 where
    place : ℕ
    p : Placed
    at : slice_get code.placed place ≡ Some p
    late : from ≤ place
    behind : end_of p ≡ site
    pays : site_share p ≡ 15

  returned_one : (i : Instr) (f : Flow) (end site : ℕ) → StandsIn (returned_to i f end) site → (end ≡ site) × (15 * length (returned_to i f end) ≡ 15)
  returned_one (instr.Call d) flow.Plain end site (zero, at) = (some_same at, refl)
  returned_one (instr.Call d) flow.Plain end site (suc k, at) = absurd (cc)
  returned_one (instr.Call d) f end site (k, at) = absurd (cc)
  returned_one i f end site (k, at) = absurd (cc)

  -- a later return site is paid for behind that call
  paid_later : (from s site : ℕ) (one : Pays from s) → Pays from site → s < site → Pays (suc one.place) site
  paid_later from s site one other up =
      let first = one.behind in
      let second = other.behind in
      let less = ends_earlier one.place other.place one.p other.p one.at other.at (omega (arith, up, first, second)) in
      record { place = other.place; p = other.p; at = other.at; late = omega (arith, less); behind = second; pays = other.pays }

  sites_paid : (sites : List ℕ) (from : ℕ) → IsIncreasing sites → ((i site : ℕ) → slice_get sites i ≡ Some site → Pays from site)
      → 15 * length sites ≤ sum_by site_share (drop from code.placed)
  sites_paid [] from sorted paid = omega arith
  sites_paid (s ∷ ss) from sorted paid =
      let one = paid 0 s refl in
      let rest = sites_paid ss (suc one.place) (tail_sorted s ss sorted)
      (λ i site at. paid_later from s site one (paid (suc i) site at) (sorted 0 (suc i) s site (omega arith) refl at)) in
      let first = sum_from site_share code.placed one.place one.p one.at in
      let later = sum_later site_share code.placed from one.place one.late in
      let pays = one.pays in
      omega (arith, rest, first, later, pays)

  -- each return site is paid for by the call before it
  all_paid : 15 * length code.sites ≤ sum_by site_share code.placed
  all_paid = sites_paid code.sites 0 is.sites.sorted (λ i site at.
      let site_of = (is.sites.exact site).0 (i, at) in
      let place = (is.placed.exact site_of.p).1 site_of.placed in
      let one = returned_one site_of.p.instr site_of.p.flow (end_of site_of.p) site site_of.behind in
      record { place = place.0; p = site_of.p; at = place.1; late = omega arith; behind = one.0; pays = one.1 })

  -- ---- blocks

  -- the words of blocks that stand for blocks of the code are no more than what is kept for these
  blocks_fit : (of : List Block) (blocks : List (ABlock XReg)) (pss : List (List Placed)) → length blocks ≡ length of → AreOfEach code.placed of pss
      → ((k : ℕ) (one : Block) (b : ABlock XReg) → slice_get of k ≡ Some one → slice_get blocks k ≡ Some b → (ps : List Placed) → AreOf code.placed one ps → IsWithin ps b)
      → blocks_size blocks ≤ sum_by (λ ps. sum_by block_share ps) pss
  blocks_fit [] [] [] many are within = omega arith
  blocks_fit [] [] (ps ∷ pss) many are within = absurd are
  blocks_fit [] (b ∷ bs) pss many are within = absurd (omega (arith, many))
  blocks_fit (one ∷ of) [] pss many are within = absurd (omega (arith, many))
  blocks_fit (one ∷ of) (b ∷ bs) [] many are within = absurd are
  blocks_fit (one ∷ of) (b ∷ bs) (ps ∷ pss) many are within =
      let rest = blocks_fit of bs pss (omega (arith, many)) are.1 (λ k. within (suc k)) in
      let here = block_fits ps b (some ps are.0) (within 0 one b refl refl ps are.0) in
      let size = sum_by-cons block_size b bs in
      let all = sum_by-cons (λ ps. sum_by block_share ps) ps pss in
      omega (arith, rest, here, size, all)
    where
      some : (ps : List Placed) → AreOf code.placed one ps → 0 < length ps
      some [] are = absurd are.first
      some (p ∷ ps) are = omega arith

  -- each block of the code has its instructions
  each_has : (of : List Block) → ((i : ℕ) (one : Block) → slice_get of i ≡ Some one → StandsIn code.blocks one) → (pss : List (List Placed)) × AreOfEach code.placed of pss
  each_has [] stand = ([], tt)
  each_has (one ∷ of) stand =
      let list = have_instructions program code is one (stand 0 one refl) in
      let rest = each_has of (λ i. stand (suc i)) in
      (list.ps ∷ rest.0, (list.are, rest.1))

  -- ---- all of it

  -- there are no more return sites than instructions
  pub few_sites : length code.sites ≤ 65536
  few_sites =
      let paid = all_paid in
      let few = few_placed program code is in
      let all = all_shares code.placed in
      let kept = least code.placed in
      omega (arith, paid, few, all, kept)
    where
      some_kept : (i : Instr) (f : Flow) → 49 ≤ block_share_of i f
      some_kept (instr.Call d) flow.Plain = omega arith
      some_kept (instr.Call d) f = omega arith
      some_kept i f = omega arith

      least : (ps : List Placed) → 49 * length ps ≤ sum_by block_share ps
      least [] = omega arith
      least (p ∷ ps) =
          let rest = least ps in
          let one : 49 ≤ block_share p = some_kept p.instr p.flow in
          let first = sum_by-cons block_share p ps in
          omega (arith, rest, one, first)

  -- the words of the blocks and of the return sites are no more than 64 for each instruction
  pub words_fit : (blocks : List (ABlock XReg)) → length blocks ≡ length code.blocks
      → ((k : ℕ) (b : ABlock XReg) → slice_get blocks k ≡ Some b → (ps : List Placed) → AreOfBlock code k ps → IsWithin ps b)
      → blocks_size blocks + 15 * length code.sites ≤ 64 * length code.placed
  words_fit blocks many within =
      let (pss, are) = each_has code.blocks (λ i one at. (i, at)) in
      let fit = blocks_fit code.blocks blocks pss many are (λ k one b at here ps are. within k b here ps (record { block = one; here = at; are = are })) in
      let all_of : AreOfEach code.placed (take (length code.blocks) code.blocks) pss = subst (λ of. AreOfEach code.placed of pss) (sym (take_all (length code.blocks) code.blocks (omega arith))) are in
      let apart = blocks_apart program code is block_share (length code.blocks) pss all_of in
      let paid = all_paid in
      let all = all_shares code.placed in
      omega (arith, fit, apart, paid, all)

  -- ---- blocks by where they begin

  module _ (private : List Slot) (blocks : List (ABlock XReg)) (passed : ArePassed private code code.blocks blocks) where
    -- there are as many as blocks of the code
    pub as_many : length blocks ≡ length code.blocks
    as_many = sym (length-map blocks (λ (b : ABlock XReg). b.first)) ∙ ap length passed.begin ∙ length-map code.blocks (λ (b : Block). b.first)

    -- one stands for the instructions of the block of its number
    same_list : (k : ℕ) (b : ABlock XReg) → slice_get blocks k ≡ Some b → (ps : List Placed) → AreOfBlock code k ps → (one : IsPassed private code b) → one.ps ≡ ps
    same_list k b at ps are one =
        let starts = slice_get-map (λ (b : ABlock XReg). b.first) blocks k ∙ ap (option_map (λ (b : ABlock XReg). b.first)) at in
        let here : slice_get (map (λ (b : Block). b.first) code.blocks) k ≡ Some b.first = sym (ap (λ l. slice_get l k) passed.begin) ∙ starts in
        let there = begun_in code.blocks one.known.0 one.block one.known.1 ∙ ap Some one.first in
        let level : one.known.0 ≡ k = once (map (λ (b : Block). b.first) code.blocks) is.blocks.sorted one.known.0 k b.first there here in
        let same : one.block ≡ are.block = some_same (sym one.known.1 ∙ ap (slice_get code.blocks) level ∙ are.here) in
        one_of_block program code is are.block one.ps ps (subst (λ (c : Block). AreOf code.placed c one.ps) same one.are) are.are

    -- it has the barriers that are planned for them
    pub each_planned : (k : ℕ) (one : Block) (b : ABlock XReg) → slice_get code.blocks k ≡ Some one → slice_get blocks k ≡ Some b → (ps : List Placed) → AreOf code.placed one ps
        → barriers_in b.steps ≡ gap_barriers (block_gaps (marked private) ps)
    each_planned k one b at here ps are =
        let passes = all_at (IsPassed private code) blocks k b passed.passed here in
        subst (λ qs. barriers_in b.steps ≡ gap_barriers (block_gaps (marked private) qs)) (same_list k b here ps (record { block = one; here = at; are = are }) passes) passes.barriers

    -- and their words are few
    pub passed_few : blocks_size blocks + 15 * length code.sites ≤ 64 * length code.placed
    passed_few = words_fit blocks as_many (λ k b at ps are.
        let one = all_at (IsPassed private code) blocks k b passed.passed at in
        subst (λ qs. IsWithin qs b) (same_list k b at ps are one) one.within)

  -- so they fit where they are laid out
  pub passed_fit : (private : List Slot) (blocks : List (ABlock XReg)) → ArePassed private code code.blocks blocks
      → blocks_size blocks + 15 * length code.sites ≤ 64 * 65536
  passed_fit private blocks passed =
      let fit = passed_few private blocks passed in
      let few = few_placed program code is in
      omega (arith, fit, few)
