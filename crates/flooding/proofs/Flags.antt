-- The flags of an entry, port by port.
use Rattle.std.specs.Prelude.{◌≡◌, ◌≢◌, ℕ, ◌≤◌, Bool, true, false, ◌&&◌, ◌||◌, not, ◌==◌, ◌-◌, [], nat_le, if◌then◌else◌}
use Rattle.std.proofs.Common.{refl, sym, ap, ◌∙◌, ⊎_elim}
use Rattle.std.proofs.lemmas.Bool.{cases_eq, eq-eqb, ne_eqb}
use Rattle.spb_types.specs.declared.ports.PortSet.{PortSet}
use Rattle.spb_types.specs.Ports.{has, no_ports, with_port, without_port}
use Rattle.spb_types.proofs.PortLemmas.{has-no_ports, has-with_same, has-with_other, has-without_same, has-without_other}
use Rattle.lsdb.specs.declared.version.Version.{Version}
use Rattle.lsdb.specs.declared.version.Version.TheVariants.{Absent, Live, Dead}
use Rattle.lsdb.specs.Version.{is_absent}
use Rattle.lsdb.specs.Entry.{Entry, made, flagged, aged_at}
use Rattle.flooding.specs.Laws.{HasFlags, StoredFlags, FloodedFlags, AskedFlags, AckedFlags, ClearedFlags, OfferedFlags, FlaggedFlags, SetSrmFlags, ClearedPortFlags, AgedFlags, ExpiredFlags, SpentFlags}

-- a set with a port, and without one, read at each port
module _ (set : PortSet) (port q : ℕ) (low : 1 ≤ port) (high : port ≤ 32) where
  pub has-with : has (with_port set port) q ≡ (has set q || (q == port))
  has-with = ⊎_elim
      (λ here. ap (λ p. has (with_port set port) p) here ∙ has-with_same set port low high ∙ sym (or_true (has set q)) ∙ ap (λ b. has set q || b) (sym (eq-eqb q port here)))
      (λ elsewhere. has-with_other set port q low high elsewhere ∙ sym (or_false (has set q)) ∙ ap (λ b. has set q || b) (sym (ne_eqb q port elsewhere)))
      (cases_eq q port)
    where
      or_true : (b : Bool) → (b || true) ≡ true
      or_true true = refl
      or_true false = refl

      or_false : (b : Bool) → (b || false) ≡ b
      or_false true = refl
      or_false false = refl

  pub has-without : has (without_port set port) q ≡ (has set q && not (q == port))
  has-without = ⊎_elim
      (λ here. ap (λ p. has (without_port set port) p) here ∙ has-without_same set port low high ∙ sym (and_false (has set q)) ∙ ap (λ b. has set q && not b) (sym (eq-eqb q port here)))
      (λ elsewhere. has-without_other set port q low high elsewhere ∙ sym (and_true (has set q)) ∙ ap (λ b. has set q && not b) (sym (ne_eqb q port elsewhere)))
      (cases_eq q port)
    where
      and_true : (b : Bool) → (b && true) ≡ b
      and_true true = refl
      and_true false = refl

      and_false : (b : Bool) → (b && false) ≡ false
      and_false true = refl
      and_false false = refl

pub has-alone : (port q : ℕ) → 1 ≤ port → port ≤ 32 → has (with_port no_ports port) q ≡ (q == port)
has-alone port q low high = has-with no_ports port q low high ∙ ap (λ b. b || (q == port)) (has-no_ports q)

pub stored_flags : StoredFlags
stored_flags up port a lifetime body low high = record { srm_at = λ p. has-without up port p low high; ssn_at = λ p. has-alone port p low high }

pub flooded_flags : FloodedFlags
flooded_flags up a lifetime body = record { srm_at = λ p. refl; ssn_at = has-no_ports }

pub asked_flags : AskedFlags
asked_flags port low high = record { srm_at = has-no_ports; ssn_at = λ p. has-alone port p low high }

pub acked_flags : AckedFlags
acked_flags port e low high = record { srm_at = λ p. has-without e.srm port p low high; ssn_at = λ p. has-with e.ssn port p low high }

pub cleared_flags : ClearedFlags
cleared_flags port e low high = record { srm_at = λ p. has-without e.srm port p low high; ssn_at = λ p. refl }

pub offered_flags : OfferedFlags
offered_flags port e low high = record { srm_at = λ p. has-with e.srm port p low high; ssn_at = λ p. has-without e.ssn port p low high }

pub flagged_flags : FlaggedFlags
flagged_flags port e low high = record { srm_at = λ p. has-with e.srm port p low high; ssn_at = λ p. refl }

or_no : (b : Bool) → (b || false) ≡ b
or_no true = refl
or_no false = refl

srm_set_by : (port : ℕ) (e : Entry) → 1 ≤ port → port ≤ 32 → (b : Bool) → HasFlags (if b then e else flagged port e) (λ p. has e.srm p || (not b && (p == port))) (λ p. has e.ssn p)
srm_set_by port e low high true = record { srm_at = λ p. sym (or_no (has e.srm p)); ssn_at = λ p. refl }
srm_set_by port e low high false = flagged_flags port e low high

pub srm_set_flags : SetSrmFlags
srm_set_flags port e low high = srm_set_by port e low high (is_absent e.version)

pub port_cleared_flags : ClearedPortFlags
port_cleared_flags port e low high = record { srm_at = λ p. has-without e.srm port p low high; ssn_at = λ p. has-without e.ssn port p low high }

-- a live LSP after a second, by whether its lifetime ends
abbrev live_after : PortSet → Entry → ℕ → Bool → Entry
live_after up e seq b = if b then made (Dead seq) 0 [] up e.ssn else record e { lifetime = e.lifetime - 1 }

live_aged : (up : PortSet) (e : Entry) (seq sum : ℕ) (b : Bool) → (live_after up e seq b).version ≡ Live seq sum → HasFlags (live_after up e seq b) (λ p. has e.srm p) (λ p. has e.ssn p)
live_aged up e seq sum true same = absurd (cc)
live_aged up e seq sum false same = record { srm_at = λ p. refl; ssn_at = λ p. refl }

live_expired : (up : PortSet) (e : Entry) (seq sum : ℕ) (b : Bool) → e.version ≡ Live seq sum → (live_after up e seq b).version ≢ Live seq sum → HasFlags (live_after up e seq b) (λ p. has up p) (λ p. has e.ssn p)
live_expired up e seq sum true is other = record { srm_at = λ p. refl; ssn_at = λ p. refl }
live_expired up e seq sum false is other = absurd (other is)

aged_by : (up : PortSet) (e : Entry) (v : Version) → (aged_at up e v).version ≡ v → HasFlags (aged_at up e v) (λ p. has e.srm p) (λ p. has e.ssn p)
aged_by up e Absent same = record { srm_at = λ p. refl; ssn_at = λ p. refl }
aged_by up e (Live seq sum) same = live_aged up e seq sum (nat_le e.lifetime 1) same
aged_by up e (Dead seq) same = record { srm_at = λ p. refl; ssn_at = λ p. refl }

pub aged_flags : AgedFlags
aged_flags up e same = aged_by up e e.version same

expired_by : (up : PortSet) (e : Entry) (v : Version) → e.version ≡ v → (aged_at up e v).version ≢ v → HasFlags (aged_at up e v) (λ p. has up p) (λ p. has e.ssn p)
expired_by up e Absent is other = absurd (other is)
expired_by up e (Live seq sum) is other = live_expired up e seq sum (nat_le e.lifetime 1) is other
expired_by up e (Dead seq) is other = absurd (other is)

pub expired_flags : ExpiredFlags
expired_flags up e other = expired_by up e e.version refl other

pub spent_flags : SpentFlags
spent_flags up seq held = record { srm_at = λ p. refl; ssn_at = λ p. refl }
