-- A thread of an image, whose words carry out the blocks that the passes made of a program's code, does what the program's
-- thread does, and follows the plan.
use Rattle.std.proofs.Common.{◌≡◌, ◌≢◌, ℕ, ◌+◌, Bool, true, false, List, [], ◌∷◌, ◌++◌, Option, refl, sym, ap, ◌∙◌, subst, arith}
use Rattle.std.specs.Prelude.{flat_map, if◌then◌else◌}
use Rattle.std.specs.List.{AllByRecursion}
use Rattle.std.proofs.lemmas.List.{append-nil}
use Rattle.ev_graph.specs.Places.{StandsIn}
use Rattle.ev_graph.specs.declared.events.End.{End}
use Rattle.ev_graph.specs.declared.events.Item.{Item}
use Rattle.ev_graph.specs.declared.events.Item.TheVariants as items
use Rattle.behavior.specs.Tree.{Tree, Gives, Begins, Point, Cut, At, Path, cut, gives, Next, Goes, Stops, ◌then◌}
use Rattle.behavior.specs.Acts.{Permission, goes}
use Rattle.behavior.specs.Exits.{Arrived, arrives, lands, resolved}
use Rattle.behavior.specs.Leaving.{Left, SameLeft}
use Rattle.behavior.specs.Seen.{trace, lowered}
use Rattle.behavior.specs.Kept.{SamePoint, both-cut, both-at, SameNext, both-go, both-stop}
use Rattle.behavior.specs.Unfolds.{Unfolds}
use Rattle.behavior.proofs.Paths.{then-assoc, path_at, path_cut, path_stop, path_then, Split, within, ended, beyond, split}
use Rattle.behavior.proofs.SeenLemmas.{lowered-to_trace}
use Rattle.x64_syntax.specs.declared.placed.Placed.{Placed}
use Rattle.x64_syntax.specs.declared.slots.Slot.{Slot}
use Rattle.x64_table.specs.State.{Thread}
use Rattle.x64_table.specs.Blocks.{x64_block}
use Rattle.elf_read.specs.Elf.{IsSegment}
use Rattle.code_at.specs.Code.{Program}
use Rattle.cfg_walk.specs.declared.code.Code.{Code}
use Rattle.cfg_walk.specs.Blocks.{BeginAt}
use Rattle.cfg_walk.specs.Code.{IsCodeOf}
use Rattle.cfg_walk.specs.Machine.{exits_of, thread_step}
use Rattle.cfg_walk.specs.Running.{at_arrival, whole_step}
use Rattle.cfg_walk.proofs.Instructions.{AreStretch, block_stretch}
use Rattle.lift.specs.Block.{first_of}
use Rattle.fence_place.specs.Marked.{marked}
use Rattle.fence_plan.specs.declared.gap.Gap.{Gap}
use Rattle.fence_plan.specs.Dressed.{dressed, begins_gap}
use Rattle.fence_plan.specs.Gaps.{Station}
use Rattle.fence_plan.specs.Planned.{first_given, later_gaps, shared_view, IsFence, FollowsPlan}
use Rattle.fence_plan.specs.Private.{is_private, privacy}
use Rattle.fence_plan.specs.Realized.{Realizes}
use Rattle.fence_plan.proofs.CallerLemmas.{StopsAlike, MayMiss, FollowsBlock, BlocksFollow, blocks_follow, at_left, path_dressed}
use Rattle.fence_merge.proofs.CallerLemmas.{IsBarrier, IsNoBarrier, view-given, given_fences, view-lowered}
use Rattle.a64_code.specs.declared.instr.XReg.{XReg}
use Rattle.a64_table.specs.State.{xregs, AState}
use Rattle.a64_table.specs.Machine.{AThread, a64_step}
use Rattle.a64_block.specs.Blocks.{a64_block}
use Rattle.a64_block.specs.declared.block.ABlock.{ABlock}
use Rattle.code_layout.specs.Carried.{ArrivesAt, IsCarriedOut}
use Rattle.code_layout.specs.Places.{place_from}
use Rattle.code_layout.proofs.CallerLemmas.{StandsFor}
use Rattle.carry_spec.specs.Plan.{IsPlan, stations_of, block_gaps}
use Rattle.translate_core.specs.Passed.{IsPassed}
use Rattle.translate_core.proofs.BlockFollowed.{Followed, block_followed}
use Rattle.translate_core.proofs.BlockWithin.{realizes_within, stretch_within}
use Rattle.translate_core.proofs.CodeRealizes.{AreInner, StandsInBlock, block_inner, plan_at, code_realizes}
use Rattle.translate_core.proofs.Made.{path_all, unfolds_all, a64_barriers, realized_none}
use Rattle.translate_core.proofs.Passes.{Alike}

-- ---- items with the fences of gaps

fences_trace : (xs ys : List Item) → AllByRecursion IsFence xs → trace (xs ++ ys) ≡ trace ys
fences_trace [] ys fences = refl
fences_trace (items.Access a ∷ xs) ys fences = absurd fences.0
fences_trace (items.Fence f ∷ xs) ys fences = fences_trace xs ys fences.1
fences_trace (items.Input t ∷ xs) ys fences = absurd fences.0
fences_trace (items.Output t ∷ xs) ys fences = absurd fences.0

fences_privacy : (private : Slot → Bool) (xs ys : List Item) → AllByRecursion IsFence xs → privacy private (xs ++ ys) ≡ privacy private ys
fences_privacy private [] ys fences = refl
fences_privacy private (items.Access a ∷ xs) ys fences = absurd fences.0
fences_privacy private (items.Fence f ∷ xs) ys fences = fences_privacy private xs ys fences.1
fences_privacy private (items.Input t ∷ xs) ys fences = absurd fences.0
fences_privacy private (items.Output t ∷ xs) ys fences = absurd fences.0

-- what is told by accesses, inputs and outputs alone is told of them with fences
module _ (private : Slot → Bool) where
  pub dressed_trace : (gs : List Gap) (xs : List Item) → trace (dressed private gs xs) ≡ trace xs
  dressed_trace gs [] = refl
  dressed_trace gs (items.Access a ∷ xs) = by (begins_gap private a xs) (λ gs. dressed_trace gs xs)
    where
      by : (b : Bool) → ((gs : List Gap) → trace (dressed private gs xs) ≡ trace xs)
          → trace (if b then items.Access a ∷ (first_given gs ++ dressed private (later_gaps gs) xs) else items.Access a ∷ dressed private gs xs) ≡ trace (items.Access a ∷ xs)
      by true rest = ap (λ l. items.Access (record a { place = 0 }) ∷ l) (fences_trace (first_given gs) (dressed private (later_gaps gs) xs) (given_fences gs) ∙ rest (later_gaps gs))
      by false rest = ap (λ l. items.Access (record a { place = 0 }) ∷ l) (rest gs)
  dressed_trace gs (items.Fence f ∷ xs) = dressed_trace gs xs
  dressed_trace gs (items.Input t ∷ xs) = ap (λ l. items.Input (record t { place = 0 }) ∷ l) (dressed_trace gs xs)
  dressed_trace gs (items.Output t ∷ xs) = ap (λ l. items.Output (record t { place = 0 }) ∷ l) (dressed_trace gs xs)

  pub dressed_privacy : (gs : List Gap) (xs : List Item) → privacy private (dressed private gs xs) ≡ privacy private xs
  dressed_privacy gs [] = refl
  dressed_privacy gs (items.Access a ∷ xs) = by (begins_gap private a xs) (λ gs. dressed_privacy gs xs)
    where
      by : (b : Bool) → ((gs : List Gap) → privacy private (dressed private gs xs) ≡ privacy private xs)
          → privacy private (if b then items.Access a ∷ (first_given gs ++ dressed private (later_gaps gs) xs) else items.Access a ∷ dressed private gs xs) ≡ privacy private (items.Access a ∷ xs)
      by true rest = ap (λ l. is_private private a ∷ l) (fences_privacy private (first_given gs) (dressed private (later_gaps gs) xs) (given_fences gs) ∙ rest (later_gaps gs))
      by false rest = ap (λ l. is_private private a ∷ l) (rest gs)
  dressed_privacy gs (items.Fence f ∷ xs) = dressed_privacy gs xs
  dressed_privacy gs (items.Input t ∷ xs) = dressed_privacy gs xs
  dressed_privacy gs (items.Output t ∷ xs) = dressed_privacy gs xs

-- ---- threads

-- what a thread of words holds is not told by X16, X17 and the number of the zero register, which are the layout's own
pub alike_free : (s : Thread) (t u : AState) → ((n : ℕ) → n ≢ 16 → n ≢ 17 → n ≢ 31 → u.regs n ≡ t.regs n) → Alike s t → Alike s u
alike_free s t u same alike = record {
  same = λ n lt. same n (λ is. omega (arith, is, lt)) (λ is. omega (arith, is, lt)) (λ is. omega (arith, is, lt)) ∙ alike.same n lt;
  fit = alike.fit;
  cf = same 19 (λ is. cc) (λ is. cc) (λ is. cc) ∙ alike.cf;
  zf = same 20 (λ is. cc) (λ is. cc) (λ is. cc) ∙ alike.zf;
  sf = same 21 (λ is. cc) (λ is. cc) (λ is. cc) ∙ alike.sf;
  of = same 22 (λ is. cc) (λ is. cc) (λ is. cc) ∙ alike.of;
}

pub alike_at : (s : Thread) (t : AState) (a : ℕ) → Alike s t → Alike (record s { at = a }) t
alike_at s t a alike = record { same = alike.same; fit = alike.fit; cf = alike.cf; zf = alike.zf; sf = alike.sf; of = alike.of }

pub first_begins : (a : ℕ) (ps : List Placed) → BeginAt a ps → a ≡ first_of ps
first_begins a [] begin = absurd begin
first_begins a (p ∷ ps) begin = sym begin

-- a thread of the image stands at the place of the block at which the program's thread is, and holds what it holds
abbrev pub StandsBeside : (first : ℕ) → List (ABlock XReg) → Thread → AThread → Type 0
StandsBeside first blocks = StandsFor (λ (s : Thread). s.at) Alike first blocks

module _ (program : Program) (code : Code) (is : IsCodeOf program code) (segments : AllByRecursion IsSegment program.parts) (private : List Slot)
    (plan : ℕ → Option (List Gap)) (is_plan : IsPlan (marked private) code plan) (may : Permission)
    (most first : ℕ) (words : List ℕ) (blocks : List (ABlock XReg))
    (carried : (b : ABlock XReg) → StandsIn blocks b → (t : AState) → IsCarriedOut (exits_of code) most first words blocks b may t)
    (passed : (b : ABlock XReg) → StandsIn blocks b → IsPassed private code b) where
  abbrev step : Thread → Tree (Next Thread)
  step = thread_step may code

  abbrev go : AThread → Tree (Next AThread)
  go = a64_step may first words

  abbrev plan_of : Thread → Option (List Gap)
  plan_of = plan_at program code is segments (marked private) plan is_plan

  abbrev InBlock : Thread → List Station → Type 0
  InBlock = StandsInBlock program code is segments (marked private) plan is_plan

  abbrev Same : Thread → AThread → Type 0
  Same = StandsBeside first blocks

  -- ---- where a block leaves to

  arrives_both : (a : Left Thread) (b : Left AState) → SameLeft Alike a b → (r : Next ℕ) → resolved (exits_of code) a.target ≡ r → resolved (exits_of code) b.target ≡ r
      → {made : List Item} {p : Point (Next (Arrived AState))} {n : ℕ} → Path (lands (exits_of code) b) made p n
      → {stop : Point (Next AThread)} → SamePoint (SameNext (ArrivesAt first blocks)) p stop
      → (made ≡ []) × ((q : Point (Next Thread)) × Path (lands (exits_of code) a then (λ c. goes (at_arrival c))) [] q 0 × SamePoint (SameNext Same) q stop)
  arrives_both a b same r of_a of_b cut both-cut = (refl, (Cut, cut, both-cut))
  arrives_both a b same (Goes at) of_a of_b gives {stop} alike =
      let c : Arrived Thread = record { at = at; state = a.state } in (
        refl,
        (
          At (Goes (at_arrival c)),
          subst (λ r. Path (Gives (arrives a.state r) then (λ c. goes (at_arrival c))) [] (At (Goes (at_arrival c))) 0) (sym of_a) gives,
          by (subst (λ r. SamePoint (SameNext (ArrivesAt first blocks)) (At (arrives b.state r)) stop) of_b alike),
        ),
      )
    where
      by : {stop : Point (Next AThread)} → SamePoint (SameNext (ArrivesAt first blocks)) (At (Goes (record { at = at; state = b.state }))) stop
          → SamePoint (SameNext Same) (At (Goes (at_arrival (record { at = at; state = a.state })))) stop
      by (both-at (both-go {t = u} there)) = both-at (both-go (record {
        known = there.known;
        at = there.at;
        holds = alike_free (record a.state { at = at }) b.state u.state there.same (alike_at a.state b.state at same.1);
      }))
  arrives_both a b same (Stops end) of_a of_b gives {stop} alike = (
    refl,
    (
      At (Stops end),
      subst (λ r. Path (Gives (arrives a.state r) then (λ c. goes (at_arrival c))) [] (At (Stops end)) 0) (sym of_a) gives,
      by (subst (λ r. SamePoint (SameNext (ArrivesAt first blocks)) (At (arrives b.state r)) stop) of_b alike),
    ),
  )
    where
      by : {stop : Point (Next AThread)} → SamePoint (SameNext (ArrivesAt first blocks)) (At (Stops end)) stop → SamePoint (SameNext Same) (At (Stops end)) stop
      by (both-at both-stop) = both-at both-stop

  -- ---- a block of words and the block that it is made of

  module _ (b : ABlock XReg) (here : StandsIn blocks b) (s : Thread) (t : AState) (level : s.at ≡ b.first) (alike : Alike s t) where
    abbrev pass : IsPassed private code b
    pass = passed b here

    abbrev ps : List Placed
    ps = pass.ps

    abbrev own : IsCarriedOut (exits_of code) most first words blocks b may t
    own = carried b here t

    abbrev place : ℕ
    place = place_from first blocks b.first

    abbrev gs : List Gap
    gs = block_gaps (marked private) ps

    abbrev whole : Tree (Next Thread)
    whole = whole_step may code 0 ps s

    abbrev Beside : List Item → Point (Next (Left AState)) → Type 0
    Beside = Followed (marked private) gs may 0 ps s

    begins : s.at ≡ first_of ps
    begins = level ∙ sym pass.first ∙ first_begins pass.block.first ps pass.are.first

    -- the path of the instructions beside a path of words, and what is seen of it
    record Landed (made : List Item) (stop : Point (Next AThread)) : Type 0 where
      items : List Item
      point : Point (Next Thread)
      begun : ℕ
      path : Path whole items point begun
      beside : SamePoint (SameNext Same) point stop
      same : trace items ≡ trace made
      missing : List Item
      may_miss : MayMiss stop missing
      barriers : AllByRecursion IsNoBarrier items
          → first_given gs ++ shared_view (privacy (marked private) items) (dressed (marked private) (later_gaps gs) items) ≡ shared_view (privacy (marked private) items) (lowered made) ++ missing

    block_path : (made : List Item) (stop : Point (Next (Left AState))) (n : ℕ) → Path (a64_block xregs may place b.steps b.end t) made stop n → Beside made stop
    block_path made stop n path = block_followed private ps b.steps b.end pass.passes may 0 place s t begins alike made stop n path

    landed_cut : (made : List Item) (f : Beside made Cut) → {stop : Point (Next AThread)} → SamePoint (SameNext (ArrivesAt first blocks)) Cut stop → Landed made stop
    landed_cut made f both-cut = by f.path f.alike
      where
        by : {point : Point (Next (Left Thread))} → Path (x64_block may 0 ps s) f.items point f.begun → SamePoint (SameNext (SameLeft Alike)) point Cut → Landed made Cut
        by path both-cut = record {
          items = f.items;
          point = Cut;
          begun = f.begun;
          path = path_cut (λ a. goes (at_arrival a)) (path_cut (lands (exits_of code)) path);
          beside = both-cut;
          same = f.same;
          missing = f.missing;
          may_miss = f.fences;
          barriers = f.barriers;
        }

    landed_stop : (made : List Item) (end : End) (f : Beside made (At (Stops end))) → {stop : Point (Next AThread)} → SamePoint (SameNext (ArrivesAt first blocks)) (At (Stops end)) stop → Landed made stop
    landed_stop made end f (both-at both-stop) = by f.path f.alike
      where
        by : {point : Point (Next (Left Thread))} → Path (x64_block may 0 ps s) f.items point f.begun → SamePoint (SameNext (SameLeft Alike)) point (At (Stops end)) → Landed made (At (Stops end))
        by path (both-at both-stop) = record {
          items = f.items;
          point = At (Stops end);
          begun = f.begun;
          path = path_stop (λ a. goes (at_arrival a)) (path_stop (lands (exits_of code)) path);
          beside = both-at both-stop;
          same = f.same;
          missing = f.missing;
          may_miss = f.fences;
          barriers = f.barriers;
        }

    no_fence : (stop : Point (Next AThread)) → MayMiss stop []
    no_fence Cut = tt
    no_fence (At (Goes t)) = refl
    no_fence (At (Stops end)) = tt

    landed_left : (made : List Item) (left : Left AState) (f : Beside made (At (Goes left))) → {more : List Item} {p : Point (Next (Arrived AState))} {m : ℕ} → Path (lands (exits_of code) left) more p m
        → {stop : Point (Next AThread)} → SamePoint (SameNext (ArrivesAt first blocks)) p stop → (all : List Item) → all ≡ made ++ more → Landed all stop
    landed_left made left f {more} path {stop} arrive all same_items = by f.path f.alike
      where
        by : {point : Point (Next (Left Thread))} → Path (x64_block may 0 ps s) f.items point f.begun → SamePoint (SameNext (SameLeft Alike)) point (At (Goes left)) → Landed all stop
        by own_path (both-at (both-go {s = a} same)) =
            let both = arrives_both a left same (resolved (exits_of code) a.target) refl (ap (resolved (exits_of code)) same.0) path arrive in
            let all_is : made ≡ all = sym (same_items ∙ ap (λ l. made ++ l) both.0 ∙ append-nil made) in
            let on : Path (x64_block may 0 ps s then (λ l. lands (exits_of code) l then (λ c. goes (at_arrival c)))) f.items both.1.0 (f.begun + 0) =
            path_at (f.items ++ []) f.items (f.begun + 0) (f.begun + 0) (append-nil f.items) refl (path_then (λ l. lands (exits_of code) l then (λ c. goes (at_arrival c))) own_path both.1.1) in
            subst (λ l. Landed l stop) all_is (record {
              items = f.items;
              point = both.1.0;
              begun = f.begun + 0;
              path = subst (λ u. Path u f.items both.1.0 (f.begun + 0)) (sym (then-assoc (x64_block may 0 ps s) (lands (exits_of code)) (λ c. goes (at_arrival c)))) on;
              beside = both.1.2;
              same = f.same;
              missing = [];
              may_miss = no_fence stop;
              barriers = λ none. f.barriers none ∙ ap (λ l. shared_view (privacy (marked private) f.items) (lowered made) ++ l) (f.whole tt);
            })

    -- a path of the words
    landed : (made : List Item) (stop : Point (Next AThread)) (n : ℕ) → Path (Begins own.does) made stop n → (from : List Item) × (lowered from ≡ lowered made) × Landed from stop
    landed made stop n path =
        let one = own.keeps.back made stop n path in
        (one.0, one.4, by (split (a64_block xregs may place b.steps b.end t) (lands (exits_of code)) one.3) one.5)
      where
        by : {from : List Item} {p : Point (Next (Arrived AState))} {m : ℕ} → Split (a64_block xregs may place b.steps b.end t) (lands (exits_of code)) from p m
            → SamePoint (SameNext (ArrivesAt first blocks)) p stop → Landed from stop
        by (within {xs = from} {n = m} path) arrive = landed_cut from (block_path from Cut m path) arrive
        by (ended {end = end} {xs = from} {n = m} path) arrive = landed_stop from end (block_path from (At (Stops end)) m path) arrive
        by (beyond {s = left} {xs = from} {all = all} {n = m} path more same_items same_count) arrive =
            landed_left from left (block_path from (At (Goes left)) m path) more arrive all same_items

    -- ---- the block follows the plan

    abbrev stretch : AreStretch program ps
    stretch = block_stretch program code is pass.block ps pass.known pass.are

    abbrev inner : AreInner program ps
    inner = block_inner program code is pass.block ps pass.known pass.are

    abbrev begin : BeginAt s.at ps
    begin = subst (λ a. BeginAt a ps) (pass.first ∙ sym level) pass.are.first

    abbrev stations : List Station
    stations = flat_map (stations_of (marked private)) ps

    realizes : Realizes (marked private) plan_of InBlock stations whole
    realizes =
        realizes_within (marked private) plan_of InBlock step (code_realizes program code is segments (marked private) plan is_plan may)
        (stretch_within program code is segments (marked private) plan is_plan may 0 ps stretch inner s begin) stations
        (code_realizes program code is segments (marked private) plan is_plan may s stations (record { rest = ps; begin = begin; stretch = stretch; inner = inner; are = refl }))

    target_barriers : (made : List Item) (stop : Point (Next AThread)) (n : ℕ) → Path (Begins own.does) made stop n → AllByRecursion IsBarrier made
    target_barriers made stop n path =
        path_all IsBarrier (unfolds_all IsBarrier (a64_barriers may first words) own.unfolds (a64_barriers may first words (record { at = place; state = t }))) path

    stops_alike : (after : List Gap) {point : Point (Next Thread)} {stop : Point (Next AThread)} → SamePoint (SameNext Same) point stop
        → StopsAlike Same (at_left (marked private) plan_of InBlock point after) stop
    stops_alike after both-cut = tt
    stops_alike after (both-at (both-go same)) = same
    stops_alike after (both-at both-stop) = refl

    follows : (made : List Item) (stop : Point (Next AThread)) (n : ℕ) → Path (Begins own.does) made stop n → FollowsBlock (marked private) Same gs whole made stop
    follows made stop n path =
        let (from, lows, l) = landed made stop n path in
        let dressing = path_dressed (marked private) plan_of InBlock whole stations realizes (later_gaps gs) l.path in
        let none : AllByRecursion IsNoBarrier l.items = path_all IsNoBarrier (realized_none (marked private) plan_of InBlock whole stations realizes) l.path in
        let turns : privacy (marked private) (dressed (marked private) (later_gaps gs) l.items) ≡ privacy (marked private) l.items = dressed_privacy (marked private) (later_gaps gs) l.items in
        record {
          from = dressed (marked private) (later_gaps gs) l.items;
          at = at_left (marked private) plan_of InBlock l.point dressing.0;
          begun = l.begun;
          path = dressing.1;
          alike = stops_alike dressing.0 l.beside;
          same = dressed_trace (marked private) (later_gaps gs) l.items ∙ l.same ∙ lowered-to_trace from made lows;
          missing = l.missing;
          may_miss = l.may_miss;
          barriers = seen l.items from l.missing turns (l.barriers none) lows (target_barriers made stop n path);
        }
      where
        seen : (items from missing : List Item) → privacy (marked private) (dressed (marked private) (later_gaps gs) items) ≡ privacy (marked private) items
            → first_given gs ++ shared_view (privacy (marked private) items) (dressed (marked private) (later_gaps gs) items) ≡ shared_view (privacy (marked private) items) (lowered from) ++ missing
            → lowered from ≡ lowered made → AllByRecursion IsBarrier made
            → shared_view (privacy (marked private) (dressed (marked private) (later_gaps gs) items)) (first_given gs ++ dressed (marked private) (later_gaps gs) items)
            ≡ shared_view (privacy (marked private) (dressed (marked private) (later_gaps gs) items)) made ++ missing
        seen items from missing turns barriers lows all =
            let front = first_given gs ++ dressed (marked private) (later_gaps gs) items in
            ap (λ turns. shared_view turns front) turns
            ∙ view-given (privacy (marked private) items) gs (dressed (marked private) (later_gaps gs) items)
            ∙ barriers
            ∙ ap (λ l. shared_view (privacy (marked private) items) l ++ missing) lows
            ∙ ap (λ l. l ++ missing) (view-lowered (privacy (marked private) items) made all)
            ∙ ap (λ turns. shared_view turns made ++ missing) (sym turns)

    block_here : (u : ℕ) → place ≡ u → BlocksFollow (marked private) plan_of Same step go s (record { at = u; state = t })
    block_here u same = record {
      gaps = gs;
      planned = ap plan (level ∙ sym pass.first) ∙ is_plan.block pass.block ps pass.known pass.are;
      block = whole;
      does = own.does;
      source = stretch_within program code is segments (marked private) plan is_plan may 0 ps stretch inner s begin;
      target = subst (λ a. Unfolds go (go (record { at = a; state = t })) (Begins own.does)) same own.unfolds;
      follows = follows;
    }

  -- wherever threads stand beside one another, their blocks follow the plan
  pub each_follows : (s : Thread) (t : AThread) → StandsBeside first blocks s t → BlocksFollow (marked private) plan_of Same step go s t
  each_follows s t stands =
      let (b, here, first_is) = stands.known in
      block_here b here s t.state (sym first_is) stands.holds t.at (ap (place_from first blocks) first_is ∙ sym stands.at)

  -- and so do their runs
  pub thread_follows : (s : Thread) (t : AThread) → StandsBeside first blocks s t → FollowsPlan (marked private) plan_of step s go t
  thread_follows s t stands = blocks_follow (marked private) plan_of Same step go each_follows s t stands
