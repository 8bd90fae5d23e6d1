-- What a list of effects makes of one site and of one transaction, and how many of a kind there are. Nothing here has to be believed: proofs/ shows what it has to do with a run.
use Rattle.std.specs.Prelude.{ℕ, Bool, List, [], ◌∷◌, length}
use Rattle.codec.specs.Lists.{select}
use Rattle.site.specs.Step.{message_kind, Effect, append, force, enter, send}
use Rattle.joint.specs.State.{Site, Transaction, appended, forced, with_entered, with_sent}

unfoldable pub site_after : ℕ → List Effect → Site → Site
site_after t [] a = a
site_after t (append k fs ∷ es) a = site_after t es (appended (record { kind = k; transaction = t; fields = fs }) a)
site_after t (force ∷ es) a = site_after t es (forced a)
site_after t (enter o ∷ es) a = site_after t es a
site_after t (send m p ∷ es) a = site_after t es a

unfoldable pub transaction_after : ℕ → List Effect → Transaction → Transaction
transaction_after s [] x = x
transaction_after s (append k fs ∷ es) x = transaction_after s es x
transaction_after s (force ∷ es) x = transaction_after s es x
transaction_after s (enter o ∷ es) x = transaction_after s es (with_entered s o x)
transaction_after s (send m p ∷ es) x = transaction_after s es (with_sent p (message_kind m) x)

unfoldable pub counted : (Effect → Bool) → List Effect → ℕ
counted f es = length (select f es)
