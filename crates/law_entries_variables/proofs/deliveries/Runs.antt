-- The acts of an entry, one after another, and the entry that leads on.
use Rattle.std.proofs.Common.{◌≡◌, ℕ, ◌==◌, ◌&&◌, true, if◌then◌else◌, List, [], ◌∷◌, Option, Some, None, refl, ap, ap₂, ◌∙◌}
use Rattle.std.specs.Prelude.{⊤}
use Rattle.law_words_ends.specs.Below.fr_base.declared.settings.Options.{Options}
use Rattle.law_words_ends.specs.Below.journal.View.{EntryView}
use Rattle.law_words_ends.specs.Below.journal.declared.act.Act.{Act}
use Rattle.law_words_ends.specs.Below.law_words_kept.Below.coloured_heap.Lists.{holds}
use Rattle.law_words_ends.specs.Below.law_words_kept.Below.coloured_heap.Heap.{Running, Coloured}
use Rattle.law_words_ends.specs.Below.law_words_kept.Below.coloured_heap.Rules.{of_run}
use Rattle.law_words_ends.specs.Below.law_words_kept.Below.coloured_heap.Changes.{after_act}
use Rattle.law_words_ends.specs.Below.law_words_kept.Below.coloured_heap.Reach.{reaches}
use Rattle.law_words_ends.specs.Below.law_words_kept.Below.coloured_heap.Legal.{is_placed, acts_after, settled}
use Rattle.law_words_ends.specs.Below.server_model.Servers.{Cluster}
use Rattle.law_words_ends.specs.Below.coherent_memory.Sight.{sight}
use Rattle.law_entries_variables.specs.deliveries.Entries.{LeadsOn}
use Rattle.law_entries_variables.proofs.deliveries.Answers.{Answers, answers_of, Fits, Agrees, coloured_by, Allowed}

-- the acts are allowed from a state, and lead to one that fits these answers
pub record Runs (o : Options) (e : EntryView) (acts : List Act) (c : Coloured) (q : Answers) : Type 0 where
  pub state : Coloured
  pub runs : acts_after o e acts c ≡ Some state
  pub fits : Fits q state

pub runs_none : (o : Options) (e : EntryView) (c : Coloured) (q : Answers) → Fits q c → Runs o e [] c q
runs_none o e c q h = record { state = c; runs = refl; fits = h }

pub runs_act : (o : Options) (e : EntryView) (a : Act) (acts : List Act) (c : Coloured) (q r : Answers) → Allowed o e c a q → ((d : Coloured) → Fits q d → Runs o e acts d r) → Runs o e (a ∷ acts) c r
runs_act o e a acts c q r h go =
    let then_on = go (after_act e c a) h.fits in
    record { state = then_on.state; runs = ap (λ b. if b then acts_after o e acts (after_act e c a) else None) h.allowed ∙ then_on.runs; fits = then_on.fits }

pub runs_one : (o : Options) (e : EntryView) (a : Act) (c : Coloured) (q : Answers) → Allowed o e c a q → Runs o e (a ∷ []) c q
runs_one o e a c q h = runs_act o e a [] c q q h (λ d f. runs_none o e d q f)

-- an entry without a plain step
abbrev pub silent : ℕ → Option ℕ → List Act → EntryView
silent n t acts = record { server = n; thread = t; done = None; acts = acts; labels = [] }

-- its thread stands there
abbrev pub Stands : Answers → ℕ → Option ℕ → Type 0
Stands q n None = ⊤
Stands q n (Some t) = (r : Running) × (q.running t ≡ Some r) × ((r.server == n) ≡ true)

placed_so : (o : Options) (n : ℕ) (t : Option ℕ) (acts : List Act) (c : Coloured) (q : Answers) → Fits q c → of_run o n ≡ true → Stands q n t → is_placed o c (silent n t acts) ≡ true
placed_so o n None acts c q h run s = ap (λ b. b && true) run
placed_so o n (Some t) acts c q h run s = ap₂ (λ b d. b && holds (λ (r : Running). r.server == n) d) run (h.servers t s.0 s.1) ∙ s.2

pub leads_on : (o : Options) (n : ℕ) (t : Option ℕ) (acts : List Act) (c : Coloured) (p q : Answers) (d : Cluster) → Fits p c → of_run o n ≡ true → Stands p n t → Runs o (silent n t acts) acts c q → Agrees q (answers_of (sight d)) → LeadsOn o (silent n t acts) c d
leads_on o n t acts c p q d h run s r a = record {
  state = r.state;
  reached = ap (λ b. holds (reaches (silent n t acts) []) (if b then acts_after o (silent n t acts) acts c else None)) (placed_so o n t acts c p h run s) ∙ ap (holds (reaches (silent n t acts) [])) r.runs;
  legal = ap (λ b. settled (silent n t acts) (if b then acts_after o (silent n t acts) acts c else None)) (placed_so o n t acts c p h run s) ∙ ap (settled (silent n t acts)) r.runs;
  stands = coloured_by q (sight d) r.state r.fits a;
}
