-- The search comes to just those nodes whose paths there are.
use Rattle.std.proofs.Common.{◌≡◌, ◌<◌, ◌↔◌, ℕ, Bool, true, false, List, [], ◌∷◌, inl, inr, Option, Some, None, refl, sym, ap, ◌∙◌, subst, arith}
use Rattle.std.specs.Prelude.{if◌then◌else◌}
use Rattle.std.specs.List.{AllByRecursion}
use Rattle.ev_graph.specs.Places.{StandsIn}
use Rattle.ev_graph.proofs.Members.{stands_front, stands_back, stands_cases, stands_map, stands_image}
use Rattle.alu_width.specs.Effects.{Effect, leaves_undefined, Kept, Defined, Undefined as Lost}
use Rattle.x64_syntax.specs.declared.placed.Placed.{Placed}
use Rattle.elf_read.specs.Elf.{IsSegment}
use Rattle.code_at.specs.Code.{Program}
use Rattle.cfg_walk.specs.declared.code.Code.{Code}
use Rattle.cfg_walk.specs.Reach.{IsPlaced, end_of}
use Rattle.cfg_walk.specs.Reach.IsReached.{at-entry}
use Rattle.cfg_walk.specs.Blocks.{IsSite}
use Rattle.cfg_walk.specs.Code.{IsCodeOf}
use Rattle.cfg_walk.specs.Machine.{placed_at}
use Rattle.cfg_walk.proofs.CallerLemmas.{finds_code}
use Rattle.graph_reach.specs.Reach.{Reached}
use Rattle.graph_reach.specs.Reach.Reached.{start, step}
use Rattle.flag_use.specs.declared.flag.Flag.{Flag}
use Rattle.flag_use.specs.declared.track.Track.{Track}
use Rattle.flag_use.specs.declared.track.Track.TheVariants.{Any, Undefined}
use Rattle.flag_use.specs.Instructions.{effects_of, effect_on}
use Rattle.flag_use.specs.Onward.{hub}
use Rattle.flag_use.specs.Paths.{follows, returns, GoesOn, PathTo, undefined_behind}
use Rattle.flag_use.specs.Paths.GoesOn.{to-next, to-site}
use Rattle.flag_use.specs.Paths.PathTo.{begins, goes}
use Rattle.flag_use.specs.Walk.{node_of, nodes_of, next, next_from, onward}
use Rattle.flag_use.proofs.Nodes.{Passes, still, leaves, keeps, IsEdge, edge, from_edge, next_hub, next_low, same_address, same_track}
use Rattle.flag_use.proofs.Ordered.{placed_low, site_low, followed_low, reached_low, hub_behind}

-- what a track asks of the paths that end at an address
abbrev pub EndsAt : Program → Track → ℕ → Type 0
EndsAt program Any a = (flag : Flag) → (was : Bool) × PathTo program flag a was
EndsAt program (Undefined flag) a = PathTo program flag a true

-- what a node means: some path ends at its address, or at each return site where the address is the hub
pub data Meaning (program : Program) (n : ℕ) : Type 0 where
  ends : (a : ℕ) (t : Track) → node_of a t ≡ n → a < hub → EndsAt program t a → Meaning program n
  returning : (t : Track) → node_of hub t ≡ n → ((b : ℕ) → IsSite program b → EndsAt program t b) → Meaning program n

-- a track that goes on behind an instruction asks for what the instruction leaves
goes_by : (program : Program) (p : Placed) (b : ℕ) (t u : Track) → IsPlaced program p → GoesOn program p b → Passes (effects_of p.instr) t u
    → EndsAt program t p.address → EndsAt program u b
goes_by program p b Any u placed on still path = λ flag.
    let before = path flag in (undefined_behind flag p.instr before.0, goes p before.1 placed on)
goes_by program p b Any u placed on (leaves flag undefined) path =
    let before = path flag in
    by_effect (effect_on flag (effects_of p.instr)) before.0 undefined (goes p before.1 placed on)
  where
    by_effect : (e : Effect) (was : Bool) → leaves_undefined e false ≡ true → PathTo program flag b (leaves_undefined e was)
        → PathTo program flag b true
    by_effect Kept was e there = absurd (cc)
    by_effect Defined was e there = absurd (cc)
    by_effect Lost was e there = there
goes_by program p b t u placed on (keeps flag undefined) path = subst (PathTo program flag b) undefined (goes p path placed on)

module _ (program : Program) (code : Code) (segments : AllByRecursion IsSegment program.parts) (is : IsCodeOf program code) where
  -- the search
  abbrev pub Comes : ℕ → Type 0
  Comes n = Reached (next code.placed code.sites) (nodes_of program.entries Any) n

  -- ---- each path is followed

  found : (p : Placed) → IsPlaced program p → placed_at code.placed p.address ≡ Some p
  found p placed = ((finds_code program code is).placed p.address p).1 (placed, refl)

  moves : (p : Placed) (t u : Track) (a : ℕ) → IsPlaced program p → Passes (effects_of p.instr) t u → StandsIn (onward p) a
      → Comes (node_of p.address t) → Comes (node_of a u)
  moves p t u a placed passes at comes =
      let low = placed_low program code segments is p placed in
      let edges : next code.placed code.sites (node_of p.address t) ≡ next_from (Some p) t =
      next_low code.placed code.sites p.address t (omega (arith, low)) ∙ ap (λ (o : Option Placed). next_from o t) (found p placed) in
      step comes (subst (λ (ns : List ℕ). StandsIn ns (node_of a u)) (sym edges) (edge (effects_of p.instr) (onward p) t u a passes at))

  to_hub : (p : Placed) → returns p.instr p.flow ≡ true → StandsIn (onward p) hub
  to_hub p return =
      stands_back (follows p.instr p.flow (end_of p)) (if returns p.instr p.flow then hub ∷ [] else []) hub
      (subst (λ (b : Bool). StandsIn (if b then hub ∷ [] else []) hub) (sym return) (0, refl))

  moves_on : (p : Placed) (t u : Track) (b : ℕ) → IsPlaced program p → Passes (effects_of p.instr) t u → GoesOn program p b
      → Comes (node_of p.address t) → Comes (node_of b u)
  moves_on p t u b placed passes (to-next at) comes =
      moves p t u b placed passes
      (stands_front (follows p.instr p.flow (end_of p)) (if returns p.instr p.flow then hub ∷ [] else []) b at) comes
  moves_on p t u b placed passes (to-site return site) comes =
      step (moves p t u hub placed passes (to_hub p return) comes)
      (subst (λ (ns : List ℕ). StandsIn ns (node_of b u)) (sym (next_hub code.placed code.sites u))
      (stands_map (λ (a : ℕ). node_of a u) code.sites b ((is.sites.exact b).1 site)))

  any_comes : {flag : Flag} {a : ℕ} {was : Bool} → PathTo program flag a was → Comes (node_of a Any)
  any_comes (begins {a = a} entry) = start (stands_map (λ (b : ℕ). node_of b Any) program.entries a entry)
  any_comes (goes {b = b} p path placed on) = moves_on p Any Any b placed still on (any_comes path)

  undefined_comes : {flag : Flag} {a : ℕ} {u : Bool} → PathTo program flag a u → u ≡ true → Comes (node_of a (Undefined flag))
  undefined_comes (begins entry) e = absurd (cc)
  undefined_comes {flag = flag} (goes {b = b} {was = was} p path placed on) e =
      by_effect (effect_on flag (effects_of p.instr)) refl e (undefined_comes path)
    where
      by_effect : (x : Effect) → effect_on flag (effects_of p.instr) ≡ x → leaves_undefined x was ≡ true
          → (was ≡ true → Comes (node_of p.address (Undefined flag))) → Comes (node_of b (Undefined flag))
      by_effect Kept same e before =
          moves_on p (Undefined flag) (Undefined flag) b placed
          (keeps flag (ap (λ (x : Effect). leaves_undefined x true) same)) on (before e)
      by_effect Defined same e before = absurd (cc)
      by_effect Lost same e before =
          moves_on p Any (Undefined flag) b placed (leaves flag (ap (λ (x : Effect). leaves_undefined x false) same)) on (any_comes path)

  -- ---- and nothing else is

  -- an edge from a node at an instruction
  means_onward : (p : Placed) (t : Track) (n : ℕ) → IsPlaced program p → EndsAt program t p.address
      → IsEdge (effects_of p.instr) (onward p) t n → Meaning program n
  means_onward p t n placed path e =
      elim (stands_cases (follows p.instr p.flow (end_of p)) (if returns p.instr p.flow then hub ∷ [] else []) e.address e.stands) [
        | inl follow ↦
            ends e.address e.track e.node (followed_low program code segments is p placed e.address follow)
            (goes_by program p e.address t e.track placed (to-next follow) e.passes path)
        | inr behind ↦
            (let at = hub_behind (returns p.instr p.flow) e.address behind in
            returning e.track (ap (λ (a : ℕ). node_of a e.track) (sym at.1) ∙ e.node)
            (λ b site. goes_by program p b t e.track placed (to-site at.0 site) e.passes path))
      ]

  -- an edge from a node at an address
  means_from : (a : ℕ) (t : Track) (n : ℕ) → EndsAt program t a → (o : Option Placed) → placed_at code.placed a ≡ o
      → StandsIn (next_from o t) n → Meaning program n
  means_from a t n path None e at = absurd (let none = at.1 in cc)
  means_from a t n path (Some p) e at =
      let there = ((finds_code program code is).placed a p).0 e in
      means_onward p t n there.0 (subst (EndsAt program t) (sym there.1) path) (from_edge (effects_of p.instr) (onward p) t n at)

  means_next : (m n : ℕ) → Meaning program m → StandsIn (next code.placed code.sites m) n → Meaning program n
  means_next m n (ends a t e low path) at =
      let edges : next code.placed code.sites m ≡ next_from (placed_at code.placed a) t =
      ap (next code.placed code.sites) (sym e) ∙ next_low code.placed code.sites a t low in
      means_from a t n path (placed_at code.placed a) refl (subst (λ (ns : List ℕ). StandsIn ns n) edges at)
  means_next m n (returning t e path) at =
      let edges : next code.placed code.sites m ≡ nodes_of code.sites t =
      ap (next code.placed code.sites) (sym e) ∙ next_hub code.placed code.sites t in
      let there = stands_image (λ (b : ℕ). node_of b t) code.sites n (subst (λ (ns : List ℕ). StandsIn ns n) edges at) in
      let site = (is.sites.exact there.0).0 there.1 in
      ends there.0 t there.2 (site_low program code segments is there.0 site) (path there.0 site)

  means : (n : ℕ) → Comes n → Meaning program n
  means n (start at) =
      let there = stands_image (λ (b : ℕ). node_of b Any) program.entries n at in
      ends there.0 Any there.2 (reached_low program code segments is there.0 (at-entry there.1)) (λ flag. (false, begins there.1))
  means n (step {a = m} comes at) = means_next m n (means m comes) at

  -- a node that asks for a flag is come to just where a path leaves the flag undefined
  pub comes_undefined : (flag : Flag) (a : ℕ) → a < hub → Comes (node_of a (Undefined flag)) ↔ PathTo program flag a true
  comes_undefined flag a low = ((λ comes. meant (means (node_of a (Undefined flag)) comes)), (λ path. undefined_comes path refl))
    where
      meant : Meaning program (node_of a (Undefined flag)) → PathTo program flag a true
      meant (ends b t e below path) =
          let at : b ≡ a = same_address b a t (Undefined flag) e in
          let track : t ≡ Undefined flag = same_track b a t (Undefined flag) e in
          subst (λ (x : ℕ). EndsAt program (Undefined flag) x) at (subst (λ (u : Track). EndsAt program u b) track path)
      meant (returning t e path) = absurd (let at = same_address hub a t (Undefined flag) e in omega (arith, at, low))
