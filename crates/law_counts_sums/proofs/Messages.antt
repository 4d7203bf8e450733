-- What the delivery of a message keeps: the message is in the hand, with what it carries.
use Rattle.std.proofs.Common.{◌≡◌, ℕ, List, ◌∷◌, ◌++◌, true, refl, arith}
use Rattle.coherent_memory.specs.Below.fr_base.declared.instruction.Instr.{Instr}
use Rattle.coherent_memory.specs.Below.server_msgs.declared.message.Message.{Message}
use Rattle.coherent_memory.specs.Below.server_msgs.declared.message.Message.TheVariants as message
use Rattle.coherent_memory.specs.Below.server_model.Work.{Site}
use Rattle.coherent_memory.specs.Below.server_model.Objects.{deliver_fetch, deliver_fetched, deliver_move, deliver_moved, deliver_drop}
use Rattle.coherent_memory.specs.Below.server_model.Events.{release, deliver_message}
use Rattle.coherent_memory.specs.Below.server_model.Sharing.{deliver_lock, deliver_granted, deliver_unlock, deliver_dup, deliver_dupped}
use Rattle.coherent_memory.specs.Below.server_model.Joining.{deliver_join, deliver_joined}
use Rattle.coherent_memory.specs.Things.{Thing, in_hand, as_content, as_result, holds, flies, sent, thread_things, message_things}
use Rattle.law_counts_sums.specs.Kinds.{message_kind}
use Rattle.law_counts_sums.specs.Laws.{Gives}
use Rattle.law_counts_sums.proofs.Proved.{IsProvedKind, IsSpending}
use Rattle.law_counts_sums.proofs.Rules.{hands_on, receives, is_plain, Kept, Spends}
use Rattle.law_counts_sums.proofs.Bags.{SiteOk}
use Rattle.law_counts_sums.proofs.Chains.{work_front, hand_front, site_trades, at_thread_keeps, beside_keeps}
use Rattle.law_counts_sums.proofs.Objects.{one_goes}
use Rattle.law_counts_sums.proofs.ObjectMessages.{fetches, fetched_comes, moves_away, moved_comes, drops_object}
use Rattle.coherent_memory.specs.Below.fr_base.declared.release.Released.TheVariants as released
use Rattle.law_counts_sums.proofs.MutexMessages.{locks_deliver, unlocks_deliver, dups_deliver, releases_deliver}
use Rattle.law_counts_sums.proofs.TaskMessages.{joins_deliver, releases_task, arrives}
use Rattle.law_counts_sums.proofs.Gifts.{granted_comes, dupped_comes, joined_comes}

module _ {K : List Thing → Type 0} (k : Kept K) (n e : ℕ) (others : List Thing) where
  -- a message that owns nothing goes from the hand of a site
  pub site_receives : (rest : List Thing) (m : Message) (x : Site) → is_plain m ≡ true → SiteOk K n e (sent n m ∷ rest) x → SiteOk K n e rest x
  site_receives rest m x plain g = site_trades k n e (sent n m ∷ rest) rest x (one_goes (sent n m) rest) (receives n m plain) g

  pub message_keeps : (code : List Instr) (m : Message) → IsProvedKind (message_kind m) → (IsSpending (message_kind m) → Spends K) → (x : Site) → SiteOk K n e (message_things n m ++ others) x → Gives (SiteOk K n e others) (deliver_message code m x)
  message_keeps code (message.Fetch w o s t) p sp x g =
      beside_keeps k n e others others (deliver_fetch w o s t) x (λ y b u. fetches k n e (b ++ others) w o s t y u) (site_receives others (message.Fetch w o s t) x refl g)
  message_keeps code (message.Fetched w c t) p sp x g =
      at_thread_keeps k n e others others t (deliver_fetched w c) x (λ h b u. fetched_comes k n e t (b ++ others) w c h u) (site_receives others (message.Fetched w c t) x refl g)
  message_keeps code (message.Move w o s t) p sp x g =
      beside_keeps k n e others others (deliver_move w o s t) x (λ y b u. moves_away k n e (b ++ others) w o s t y u) (site_receives others (message.Move w o s t) x refl g)
  message_keeps code (message.Moved w c t) p sp x g =
      at_thread_keeps k n e (flies w c ∷ others) others t (deliver_moved code w c) x (λ h b u. moved_comes k n e t (b ++ others) code w c h (hand_front k n e t b others (flies w c) h u))
      (site_receives (flies w c ∷ others) (message.Moved w c t) x refl g)
  message_keeps code (message.Drop w o) p sp x g =
      beside_keeps k n e (sent n (message.Drop w o) ∷ others) others (deliver_drop w o) x
      (λ y b u. drops_object k n e (b ++ others) n w o y (work_front k n e b others (sent n (message.Drop w o)) y u)) g
  message_keeps code (message.Lock m s t) p sp x g =
      beside_keeps k n e others others (deliver_lock m s t) x (λ y b u. locks_deliver k n e (b ++ others) m s t y u) (site_receives others (message.Lock m s t) x refl g)
  message_keeps code (message.Granted m v t) p sp x g =
      at_thread_keeps k n e (holds (as_content m) v ∷ others) others t (deliver_granted m v) x (λ h b u. granted_comes k n e t (b ++ others) m v h (hand_front k n e t b others (holds (as_content m) v) h u))
      (site_receives (holds (as_content m) v ∷ others) (message.Granted m v t) x refl g)
  message_keeps code (message.Unlock m v) p sp x g =
      beside_keeps k n e (holds in_hand v ∷ others) others (deliver_unlock m v) x (λ y b u. unlocks_deliver k n e (b ++ others) m v y (work_front k n e b others (holds in_hand v) y u))
      (site_trades k n e (holds (as_content m) v ∷ others) (holds in_hand v ∷ others) x (record { rest = others; before = λ f. omega arith; after = λ f. omega arith }) (hands_on (as_content m) in_hand v) (site_receives (holds (as_content m) v ∷ others) (message.Unlock m v) x refl g))
  message_keeps code (message.Dup m s t) p sp x g =
      beside_keeps k n e others others (deliver_dup m s t) x (λ y b u. dups_deliver k n e (b ++ others) m s t y u) (site_receives others (message.Dup m s t) x refl g)
  message_keeps code (message.Dupped m t) p sp x g =
      at_thread_keeps k n e (sent n (message.Dupped m t) ∷ others) others t (deliver_dupped m) x (λ h b u. dupped_comes k n e t (b ++ others) n m h (hand_front k n e t b others (sent n (message.Dupped m t)) h u)) g
  message_keeps code (message.Release (released.Mutex m)) p sp x g =
      beside_keeps k n e (sent n (message.Release (released.Mutex m)) ∷ others) others (release (released.Mutex m)) x (λ y b u. releases_deliver k n e (b ++ others) m y (work_front k n e b others (sent n (message.Release (released.Mutex m))) y u)) g
  message_keeps code (message.Release (released.Task t)) p sp x g =
      beside_keeps k n e (sent n (message.Release (released.Task t)) ∷ others) others (release (released.Task t)) x (λ y b u. releases_task k n e (sp tt) (b ++ others) t y (work_front k n e b others (sent n (message.Release (released.Task t))) y u)) g
  message_keeps code (message.Start t) p sp x g = arrives k n e others t x (site_receives (thread_things n true t ++ others) (message.Start t) x refl g)
  message_keeps code (message.Migrate t) p sp x g = arrives k n e others t x (site_receives (thread_things n true t ++ others) (message.Migrate t) x refl g)
  message_keeps code (message.Join u s t) p sp x g =
      beside_keeps k n e others others (deliver_join u s t) x (λ y b w. joins_deliver k n e (b ++ others) u s t y w) (site_receives others (message.Join u s t) x refl g)
  message_keeps code (message.Joined u v t) p sp x g =
      at_thread_keeps k n e (holds (as_result u) v ∷ others) others t (deliver_joined u v) x (λ h b w. joined_comes k n e t (b ++ others) u v h (hand_front k n e t b others (holds (as_result u) v) h w))
      (site_receives (holds (as_result u) v ∷ others) (message.Joined u v t) x refl g)
  message_keeps code (message.Finished u v) p sp x g = absurd p
