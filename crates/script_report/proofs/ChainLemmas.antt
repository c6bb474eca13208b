-- Stages one after the other.
use Rattle.std.proofs.Common.{◌≡◌, ℕ, List, [], ◌∷◌, Option, Some, refl, sym, ap, subst, ◌∙◌}
use Rattle.vfs_model.specs.State.{Call, Reply, NothingPending, Saw, Fault}
use Rattle.vfs_model.specs.History.{Operation}
use Rattle.script_report.specs.Stages.{Stage, Whole, Asks, Delivers, Reads, next_call, delivered, was_read, advance, stage_after, Follows, chained}

delivered-chained : (n : ℕ) (next : ℕ → Stage) (more : Stage) (r : Reply) → delivered n (λ k. chained (next k) more) r ≡ chained (delivered n next r) more
delivered-chained n next more NothingPending = refl
delivered-chained n next more _ = refl

read-chained : (c n : ℕ) (next : Option ℕ → Stage) (more : Stage) (r : Reply) → was_read c n (λ k. chained (next k) more) r ≡ chained (was_read c n next r) more
read-chained c n next more (Saw path kind left) = refl
read-chained c n next more Fault = refl
read-chained c n next more _ = refl

-- while a call of the first is due, it is due, and so it goes on
due-chained : (stage more : Stage) (call : Call) → next_call stage ≡ Some call → (next_call (chained stage more) ≡ Some call) × ((r : Reply) → advance (chained stage more) r ≡ chained (advance stage r) more)
due-chained (Whole text) more call e = absurd cc
due-chained (Asks due next) more call e = (e, λ r. refl)
due-chained (Delivers n next) more call e = (e, λ r. delivered-chained n next more r)
due-chained (Reads c n next) more call e = (e, λ r. read-chained c n next more r)

-- what follows the first follows both, and leaves what is left of the first before the other
pub chained-follows : (caller : ℕ) (stage more : Stage) (h : List Operation) → Follows caller stage h → Follows caller (chained stage more) h × (stage_after (chained stage more) h ≡ chained (stage_after stage h) more)
chained-follows caller stage more [] follows = (tt, refl)
chained-follows caller stage more (o ∷ h) follows =
    let due = due-chained stage more o.call follows.1 in
    let next = due.1 o.reply in
    let rest = chained-follows caller (advance stage o.reply) more h follows.2 in
    ((follows.0, due.0, subst (λ z. Follows caller z h) (sym next) rest.0), ap (λ z. stage_after z h) next ∙ rest.1)

-- a whole one, and then the other
pub chained-whole : (caller : ℕ) (stage more : Stage) (h : List Operation) (text : List ℕ) → Follows caller stage h → stage_after stage h ≡ Whole text → stage_after (chained stage more) h ≡ more
chained-whole caller stage more h text follows whole = (chained-follows caller stage more h follows).1 ∙ ap (λ z. chained z more) whole
