use Rattle.std.proofs.Common.{◌≡◌, map, length, arith, refl}
use Rattle.std.proofs.lemmas.List.{length-map}
use Rattle.vfs_model.specs.History.{AreInputs}
use Rattle.vfs_model.specs.State.{CallFingerprint}
use Rattle.vfs_laws.proofs.KeepLemmas.{step-keeps}
use Rattle.fingerprint_norms.specs.Meaning.{input_of}
use Rattle.vfs_machine.proofs.CalledLemmas.{quiet-called, spends-none}
use Rattle.vfs_machine.proofs.ToldLemmas.{tells-as-before, not_asked}
use Rattle.vfs_machine.proofs.KeptLemmas.{digest-told}
use Rattle.vfs_machine.proofs.machine.Machine.fingerprint.Goals as goal

pub invariant_of-self : goal.invariant_of-self
invariant_of-self g c =
    let same : length (map input_of c.args.inputs.now) ≡ length c.args.inputs.now = length-map c.args.inputs.now input_of in
    let are : AreInputs (map input_of c.args.inputs.now) = record {
      some = let h = c.requires.some in omega (arith, same, h);
      few = let h = c.requires.few in omega (arith, same, h);
      short = c.ask_roots.ensures;
    } in
    step-keeps g.V.Versions.version g.V.Versions.count _ _ not_asked (CallFingerprint (map input_of c.args.inputs.now)) _ are (tells-as-before _ _ c.fingerprint.ensures.content) (λ s st. tt) (λ w told s st. tt) (c.fingerprint.ensures.step not_asked) c.self.invariant

pub returns-clause-called : goal.returns-clause-called
returns-clause-called g c =
    rw (← c.self.view_is)
    (quiet-called g.V.Versions.version g.V.Versions.count c.self.inside.engine c.fingerprint.new.self (CallFingerprint (map input_of c.args.inputs.now)) _ refl c.fingerprint.ensures.content (c.fingerprint.ensures.step not_asked) (c.fingerprint.ensures.last not_asked) c.fingerprint.ensures.log c.fingerprint.ensures.versions c.fingerprint.ensures.pending
    (spends-none g.V.Versions.count c.self.inside.engine c.fingerprint.new.self 0 c.fingerprint.ensures.versions c.fingerprint.ensures.pending))

pub returns-clause-world : goal.returns-clause-world
returns-clause-world g c =
    rw (← c.self.view_is)
    (λ w digest told events mark is. digest-told g.V.Versions.version g.V.Versions.count _ _ w (map input_of c.args.inputs.now) _ digest told (c.case-case.ensures.world w told) events mark c.self.invariant c.fingerprint.ensures.step is)

pub returns-clause-kept : goal.returns-clause-kept
returns-clause-kept g c = rw (← c.self.view_is) c.fingerprint.ensures.kept
