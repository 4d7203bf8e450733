-- What acts leave as it was.
use Rattle.std.proofs.Common.{◌≡◌, Bool, true, false, refl, ap}
use Rattle.journal.specs.declared.act.Act.{Act}
use Rattle.journal.specs.declared.act.Act.TheVariants as act
use Rattle.journal.specs.View.{EntryView}
use Rattle.coloured_heap.specs.Heap.{Coloured}
use Rattle.coloured_heap.specs.Rules.{issued_by}
use Rattle.coloured_heap.specs.Changes.{after_act, changed_by, with_new}
use Rattle.coloured_heap.specs.Tables.{takes_memory}

-- acts that change what is there
abbrev pub changes_there : Act → Bool
changes_there (act.Give p w there) = true
changes_there (act.Take p old new) = true
changes_there (act.Tint p old new) = true
changes_there (act.Renew p old new) = true
changes_there (act.Condemn p w) = true
changes_there (act.Free p w) = true
changes_there (act.Evict w) = true
changes_there (act.Grant m t there) = true
changes_there (act.GiveBack m) = true
changes_there (act.Dupped m t there) = true
changes_there (act.Answer t asker there) = true
changes_there (act.Finish t) = true
changes_there (act.Depart t there) = true
changes_there _ = false

-- the others that take no memory change nothing
pub stays : (e : EntryView) (s : Coloured) (a : Act) → takes_memory a ≡ false → changes_there a ≡ false → changed_by e s a ≡ s
stays e s (act.Make p w) none other = absurd cc
stays e s (act.Local p w) none other = refl
stays e s (act.Hit p w) none other = refl
stays e s (act.Ask p w) none other = absurd cc
stays e s (act.Serve p w there) none other = absurd cc
stays e s (act.Fill p w) none other = absurd cc
stays e s (act.Pull p w) none other = absurd cc
stays e s (act.Give p w there) none other = absurd cc
stays e s (act.Take p old new) none other = absurd cc
stays e s (act.Tint p old new) none other = absurd cc
stays e s (act.Renew p old new) none other = absurd cc
stays e s (act.Condemn p w) none other = absurd cc
stays e s (act.Free p w) none other = absurd cc
stays e s (act.Evict w) none other = absurd cc
stays e s (act.AskLock m) none other = absurd cc
stays e s (act.Grant m t there) none other = absurd cc
stays e s (act.GiveBack m) none other = absurd cc
stays e s (act.AskDup m) none other = absurd cc
stays e s (act.Dupped m t there) none other = absurd cc
stays e s (act.LetGo x) none other = refl
stays e s (act.Start t there) none other = absurd cc
stays e s (act.AskJoin t) none other = absurd cc
stays e s (act.Answer t asker there) none other = absurd cc
stays e s (act.Finish t) none other = absurd cc
stays e s (act.Depart t there) none other = absurd cc

-- no change touches the words that were issued
same_issued : (e : EntryView) (s : Coloured) (a : Act) → (changed_by e s a).issued ≡ s.issued
same_issued e s (act.Make p w) = refl
same_issued e s (act.Local p w) = refl
same_issued e s (act.Hit p w) = refl
same_issued e s (act.Ask p w) = refl
same_issued e s (act.Serve p w there) = refl
same_issued e s (act.Fill p w) = refl
same_issued e s (act.Pull p w) = refl
same_issued e s (act.Give p w there) = refl
same_issued e s (act.Take p old new) = refl
same_issued e s (act.Tint p old new) = refl
same_issued e s (act.Renew p old new) = refl
same_issued e s (act.Condemn p w) = refl
same_issued e s (act.Free p w) = refl
same_issued e s (act.Evict w) = refl
same_issued e s (act.AskLock m) = refl
same_issued e s (act.Grant m t there) = refl
same_issued e s (act.GiveBack m) = refl
same_issued e s (act.AskDup m) = refl
same_issued e s (act.Dupped m t there) = refl
same_issued e s (act.LetGo x) = refl
same_issued e s (act.Start t there) = refl
same_issued e s (act.AskJoin t) = refl
same_issued e s (act.Answer t asker there) = refl
same_issued e s (act.Finish t) = refl
same_issued e s (act.Depart t there) = refl

pub issues : (e : EntryView) (s : Coloured) (a : Act) → record (changed_by e s a) { issued = with_new (issued_by a) (changed_by e s a).issued } ≡ after_act e s a
issues e s a = ap (λ ws. record (changed_by e s a) { issued = with_new (issued_by a) ws }) (same_issued e s a)
