-- The image's words have as many barriers of each kind as the summary counts.
use Rattle.std.proofs.Common.{◌≡◌, ◌+◌, ℕ, suc, Bool, true, false, List, [], ◌∷◌, ◌++◌, length, map, cond, Some, refl, sym, ap, ◌∙◌, arith}
use Rattle.std.specs.Prelude.{sum_by, count_by, flat_map, slice_get}
use Rattle.std.proofs.lemmas.List.Concat.{flat_map-cons}
use Rattle.std.proofs.lemmas.List.Sums.{sum_by-cons, sum_by-append}
use Rattle.ev_graph.specs.declared.events.FenceKind.{FenceKind}
use Rattle.behavior.specs.Seen.{barrier}
use Rattle.x64_syntax.specs.declared.placed.Placed.{Placed}
use Rattle.x64_syntax.specs.declared.slots.Slot.{Slot}
use Rattle.code_at.specs.Code.{Program}
use Rattle.cfg_walk.specs.declared.code.Block.{Block}
use Rattle.cfg_walk.specs.declared.code.Code.{Code}
use Rattle.cfg_walk.specs.Blocks.{AreOf}
use Rattle.cfg_walk.specs.Code.{IsCodeOf}
use Rattle.fence_place.specs.Marked.{marked}
use Rattle.fence_plan.specs.Gaps.{fences_of}
use Rattle.fence_plan.specs.declared.gap.Gap.{Gap}
use Rattle.a64_code.specs.declared.instr.XReg.{XReg}
use Rattle.a64_block.specs.Barriers.{barriers_in, spelled_barriers}
use Rattle.a64_block.specs.declared.block.ABlock.{ABlock}
use Rattle.code_layout.specs.Barriers.{barriers_of}
use Rattle.carry_spec.specs.declared.summary.Summary.{Summary}
use Rattle.carry_spec.specs.Barriers.{is_load_barrier, is_store_barrier, is_full_barrier, HasPlannedBarriers}
use Rattle.carry_spec.specs.Plan.{AreOfEach, block_gaps}
use Rattle.translate_core.specs.Passed.{ArePassed, gap_barriers}
use Rattle.translate_core.proofs.Sizes.{each_planned, as_many}

-- ---- counts

-- what is counted of joined lists
count_each : {A B : Type 0} (p : B → Bool) (f : A → List B) (xs : List A) → count_by p (flat_map f xs) ≡ sum_by (λ x. count_by p (f x)) xs
count_each p f [] = refl
count_each p f (x ∷ xs) =
    ap (count_by p) (flat_map-cons f x xs) ∙ sum_by-append (λ y. cond (p y) 1 0) (f x) (flat_map f xs) ∙ ap (λ n. count_by p (f x) + n) (count_each p f xs)
    ∙ sym (sum_by-cons (λ x. count_by p (f x)) x xs)

-- a test of gaps counts as one of the barriers that they give
count_gaps : (p : FenceKind → Bool) (holds : Gap → Bool) → ((g : Gap) → count_by p (map barrier (fences_of g)) ≡ cond (holds g) 1 0) → (gs : List Gap) → count_by p (gap_barriers gs) ≡ count_by holds gs
count_gaps p holds one gs = count_each p (λ (g : Gap). map barrier (fences_of g)) gs ∙ each gs
  where
    each : (gs : List Gap) → sum_by (λ (g : Gap). count_by p (map barrier (fences_of g))) gs ≡ count_by holds gs
    each [] = refl
    each (g ∷ gs) =
        sum_by-cons (λ (g : Gap). count_by p (map barrier (fences_of g))) g gs ∙ ap (λ n. n + sum_by (λ (g : Gap). count_by p (map barrier (fences_of g))) gs) (one g)
        ∙ ap (λ n. cond (holds g) 1 0 + n) (each gs) ∙ sym (sum_by-cons (λ (g : Gap). cond (holds g) 1 0) g gs)

-- the barriers that a gap gives, by its fences
abbrev given_by : (frm fww fsc : Bool) → List FenceKind
given_by frm fww fsc = map barrier (fences_of (record { frm = frm; fww = fww; fsc = fsc }))

one_load : (frm fww fsc : Bool) → count_by is_load_barrier (given_by frm fww fsc) ≡ cond frm 1 0
one_load true true true = refl
one_load true true false = refl
one_load true false true = refl
one_load true false false = refl
one_load false true true = refl
one_load false true false = refl
one_load false false true = refl
one_load false false false = refl

one_store : (frm fww fsc : Bool) → count_by is_store_barrier (given_by frm fww fsc) ≡ cond fww 1 0
one_store true true true = refl
one_store true true false = refl
one_store true false true = refl
one_store true false false = refl
one_store false true true = refl
one_store false true false = refl
one_store false false true = refl
one_store false false false = refl

one_full : (frm fww fsc : Bool) → count_by is_full_barrier (given_by frm fww fsc) ≡ cond fsc 1 0
one_full true true true = refl
one_full true true false = refl
one_full true false true = refl
one_full true false false = refl
one_full false true true = refl
one_full false true false = refl
one_full false false true = refl
one_full false false false = refl

-- ---- blocks

module _ (program : Program) (code : Code) (is : IsCodeOf program code) (private : List Slot) where
  -- the barriers that are planned for instructions
  abbrev plan : List Placed → List FenceKind
  plan ps = gap_barriers (block_gaps (marked private) ps)

  -- blocks that stand for these instructions
  each_block : (of : List Block) (blocks : List (ABlock XReg)) (pss : List (List Placed)) → length blocks ≡ length of → AreOfEach code.placed of pss
      → ((k : ℕ) (one : Block) (b : ABlock XReg) → slice_get of k ≡ Some one → slice_get blocks k ≡ Some b → (ps : List Placed) → AreOf code.placed one ps → barriers_in b.steps ≡ plan ps)
      → barriers_of blocks ≡ flat_map plan pss
  each_block [] [] [] many are planned = refl
  each_block [] [] (ps ∷ pss) many are planned = absurd are
  each_block [] (b ∷ bs) pss many are planned = absurd (omega (arith, many))
  each_block (one ∷ of) [] pss many are planned = absurd (omega (arith, many))
  each_block (one ∷ of) (b ∷ bs) [] many are planned = absurd are
  each_block (one ∷ of) (b ∷ bs) (ps ∷ pss) many are planned =
      flat_map-cons (λ (b : ABlock XReg). barriers_in b.steps) b bs ∙ ap (λ l. l ++ barriers_of bs) (planned 0 one b refl refl ps are.0)
      ∙ ap (λ l. plan ps ++ l) (each_block of bs pss (omega (arith, many)) are.1 (λ k. planned (suc k))) ∙ sym (flat_map-cons plan ps pss)

  -- what is counted of them
  count_blocks : (p : FenceKind → Bool) (holds : Gap → Bool) → ((g : Gap) → count_by p (map barrier (fences_of g)) ≡ cond (holds g) 1 0) → (pss : List (List Placed))
      → count_by p (flat_map plan pss) ≡ sum_by (λ ps. count_by holds (block_gaps (marked private) ps)) pss
  count_blocks p holds one pss = count_each p plan pss ∙ each pss
    where
      each : (pss : List (List Placed)) → sum_by (λ ps. count_by p (plan ps)) pss ≡ sum_by (λ ps. count_by holds (block_gaps (marked private) ps)) pss
      each [] = refl
      each (ps ∷ pss) =
          sum_by-cons (λ ps. count_by p (plan ps)) ps pss ∙ ap (λ n. n + sum_by (λ ps. count_by p (plan ps)) pss) (count_gaps p holds one (block_gaps (marked private) ps))
          ∙ ap (λ n. count_by holds (block_gaps (marked private) ps) + n) (each pss) ∙ sym (sum_by-cons (λ ps. count_by holds (block_gaps (marked private) ps)) ps pss)

  -- words with the barriers of the blocks that the passes made have as many as any summary of the code counts
  pub image_barriers : (blocks : List (ABlock XReg)) (words : List ℕ) (threads : ℕ) → ArePassed private code code.blocks blocks → spelled_barriers words ≡ barriers_of blocks
      → HasPlannedBarriers (marked private) threads code words
  image_barriers blocks words threads passed spelled summary counts =
      let here = each_block code.blocks blocks counts.blocks (as_many program code is private blocks passed) counts.are (each_planned program code is private blocks passed) in
      let counted : (p : FenceKind → Bool) (holds : Gap → Bool) → ((g : Gap) → count_by p (map barrier (fences_of g)) ≡ cond (holds g) 1 0)
      → count_by p (spelled_barriers words) ≡ sum_by (λ ps. count_by holds (block_gaps (marked private) ps)) counts.blocks =
      λ p holds one. ap (count_by p) (spelled ∙ here) ∙ count_blocks p holds one counts.blocks in
      record {
        frm = counted is_load_barrier (λ (g : Gap). g.frm) (λ g. one_load g.frm g.fww g.fsc) ∙ sym (ap (λ (s : Summary). s.frm) counts.counted);
        fww = counted is_store_barrier (λ (g : Gap). g.fww) (λ g. one_store g.frm g.fww g.fsc) ∙ sym (ap (λ (s : Summary). s.fww) counts.counted);
        fsc = counted is_full_barrier (λ (g : Gap). g.fsc) (λ g. one_full g.frm g.fww g.fsc) ∙ sym (ap (λ (s : Summary). s.fsc) counts.counted);
      }
