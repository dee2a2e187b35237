-- In a second that passes in calm a bridge sends a hello at each port with carrier, and nothing else.
use Rattle.std.proofs.Common.{◌≡◌, ◌<◌, ◌+◌, ◌-◌, ℕ, zero, suc, Bool, true, false, List, [], ◌∷◌, ◌++◌, map, length, refl, sym, ap, ◌∙◌, subst, Option, Some, None, arith}
use Rattle.std.specs.Prelude.{◌&&◌, slice_get, if◌then◌else◌}
use Rattle.std.specs.List.{list_any}
use Rattle.std.proofs.lemmas.Bool.{eq-eqb, true≢false}
use Rattle.std.proofs.lemmas.Option.{same_Some, slice_get_within}
use Rattle.spb_types.specs.declared.address.LspId.{LspId}
use Rattle.spb_types.specs.declared.address.SystemId.{SystemId}
use Rattle.isis_pdu.specs.Pdu.{CsnpValue, LspValue, PsnpValue}
use Rattle.spb_tlvs.specs.declared.entries.SnpEntry.{SnpEntry}
use Rattle.spb_tlvs.specs.RoundTrip.{IsNamed}
use Rattle.itag_frames.specs.Classify.{ControlAgain}
use Rattle.lsdb.specs.Entry.{Entry}
use Rattle.lsdb.specs.Database.{Lsps, any_flags}
use Rattle.lsdb.proofs.Flags.{none_to_send, none_to_ack}
use Rattle.flooding.specs.Sending.{lsp_in}
use Rattle.snp_sync.specs.SnpEntries.{snp_entry_of, snp_entries_where, has_ssn_at}
use Rattle.snp_sync.specs.Chunks.{chunks}
use Rattle.snp_sync.specs.Sending.{psnp_for, csnps_of, all_ssn_cleared}
use Rattle.snp_sync.proofs.Cuts.{chunks_none}
use Rattle.snp_sync.proofs.Silent.{none_cleared}
use Rattle.adjacency.specs.States.{state_number}
use Rattle.adjacency.specs.declared.port.Adjacency.{Adjacency}
use Rattle.adjacency.specs.Adjacency.{neighbour_of, said}
use Rattle.bridge_api.specs.declared.port.BridgePort.{BridgePort}
use Rattle.bridge_api.specs.View.{BridgeView, port_at, neighbour_at, is_port_up, has_carrier_in, has_carrier_at}
use Rattle.bridge_api.specs.Ticking.{later, readied, hello_at, hello_frame, lsp_frame, csnp_frame, psnp_frame, hellos_at, summaries_at, lsps_at, requests_at, synced_at, sent_at, after_sending_at, sent_from, after_sending_from, sent_in_tick}
use Rattle.bridge_api.specs.Step.{second, sent, frames_at}
use Rattle.bridge_api.specs.Laws.{IsSoundView}
use Rattle.bridge_api.proofs.Carriers.{later_carrier}
use Rattle.bridge_api.proofs.Changes.{found, readied_ports, readied_rest}
use Rattle.bridge_api.proofs.Hellos.{hello_heard, neighbour_found, port_octets, sent_with_carrier}
use Rattle.bridge_api.proofs.SoundPorts.{later_sound, sound_at}
use Rattle.bridge_api.specs.Calm.{IsCalmFor}
use Rattle.bridge_rounds.specs.Calm.{IsGreetingOf, CalmSecondGreets, CalmSecondIsSilent}
use Rattle.bridge_rounds.proofs.CalmBridges.{AreUndue, port_kept, none_due, readied_lowered, none_flagged}
use Rattle.bridge_rounds.proofs.CalmLives.{lowered_db, or_parts}
use Rattle.bridge_rounds.proofs.SentAtPorts.{none_at, at_both, none_before, none_beside}

-- ---- where no flags stand

when_any : {X : Type 0} (b : Bool) (xs : List X) → xs ≡ [] → (if b then xs else []) ≡ []
when_any true xs none = none
when_any false xs none = refl

module _ (db : Lsps) (none : any_flags db ≡ false) where
  no_requests : (q : ℕ) → snp_entries_where (has_ssn_at q) db ≡ []
  no_requests q = ap (λ (es : List (LspId × Entry)). map (λ e. snp_entry_of e.0 e.1) es) (none_to_ack db none q)

  cleared_by : (b : Bool) (q : ℕ) → (if b then all_ssn_cleared q db else db) ≡ db
  cleared_by true q = sym (none_cleared q db (no_requests q))
  cleared_by false q = refl

  -- sending clears nothing
  pub unsent_at : (q : ℕ) (port : BridgePort) → after_sending_at q port db ≡ db
  unsent_at q port = cleared_by (is_port_up port) q

  module _ (system : SystemId) where
    no_summaries : (q : ℕ) (port : BridgePort) → port.csnp_due ≡ false → summaries_at system q port db ≡ []
    no_summaries q port undue = ap (λ b. if b then map (λ (c : CsnpValue). (q, csnp_frame system c)) (csnps_of system db) else []) undue

    no_lsps : (q : ℕ) → lsps_at system q db ≡ []
    no_lsps q = ap (λ (es : List (LspId × Entry)). map (λ (l : LspValue). (q, lsp_frame system l)) (map (λ e. lsp_in e.0 e.1) es)) (none_to_send db none q)

    no_psnps : (q : ℕ) → requests_at system q db ≡ []
    no_psnps q =
        ap (λ (es : List SnpEntry). map (λ (s : PsnpValue). (q, psnp_frame system s)) (map (psnp_for system) (chunks 90 es))) (no_requests q)
        ∙ ap (λ (list : List (List SnpEntry)). map (λ (s : PsnpValue). (q, psnp_frame system s)) (map (psnp_for system) list)) (chunks_none 90)

    no_more : (q : ℕ) (port : BridgePort) → port.csnp_due ≡ false → synced_at system q port db ≡ []
    no_more q port undue =
        when_any (is_port_up port) (summaries_at system q port db ++ lsps_at system q db ++ requests_at system q db)
        (λ i. no_summaries q port undue i ++ no_lsps q i ++ no_psnps q i)

    -- at a port with carrier the hello is all that is sent
    hello_alone : (q : ℕ) (port : BridgePort) → port.csnp_due ≡ false → port.adjacency.carrier ≡ true → frames_at q (sent_at system q port db) ≡ hello_frame system q port ∷ []
    hello_alone q port undue carrier =
        ap (λ (ss : List (ℕ × List ℕ)). frames_at q (hellos_at system q port ++ ss)) (no_more q port undue)
        ∙ (ap (λ b. frames_at q ((if b then (q, hello_frame system q port) ∷ [] else []) ++ [])) carrier
        ∙ ap (λ b. if b then hello_frame system q port ∷ [] else []) (eq-eqb q q refl))

    one_sent : (p q place : ℕ) (ports : List BridgePort) (port : BridgePort) → AreUndue ports → p ≡ q + place → slice_get ports place ≡ Some port → port.adjacency.carrier ≡ true
        → frames_at p (sent_from system q (map later ports) db) ≡ hello_frame system p (later port) ∷ []
    one_sent p q place [] port undue number there carrier = absurd cc
    one_sent p q zero (x ∷ ports) port undue number there carrier =
        let parts = or_parts x.csnp_due (list_any (λ y. y.csnp_due) ports) undue in
        let same : x ≡ port = same_Some x port there in
        let first : q ≡ p = omega (arith, number) in
        let rest : List (ℕ × List ℕ) = sent_from system (q + 1) (map later ports) (after_sending_at q (later x) db) in
        let due : (later x).csnp_due ≡ false = ap (λ b. b && is_port_up (later x)) parts.0 in
        at_both (sent_at system q (later x) db) rest p
        ∙ ((λ i. frames_at p (sent_at system (first i) (later x) db) ++ none_before system (q + 1) (map later ports) (after_sending_at q (later x) db) p (omega (arith, first)) i)
        ∙ (ap (λ (fs : List (List ℕ)). fs ++ []) (hello_alone p (later x) due (later_carrier x ∙ (ap (λ (y : BridgePort). y.adjacency.carrier) same ∙ carrier)))
        ∙ ap (λ (y : BridgePort). hello_frame system p (later y) ∷ []) same))
    one_sent p q (suc place) (x ∷ ports) port undue number there carrier =
        let parts = or_parts x.csnp_due (list_any (λ y. y.csnp_due) ports) undue in
        let rest : List (ℕ × List ℕ) = sent_from system (q + 1) (map later ports) (after_sending_at q (later x) db) in
        at_both (sent_at system q (later x) db) rest p
        ∙ ((λ i. none_beside system q (later x) db p (λ e. absurd (omega (arith, number, e))) i ++ frames_at p (sent_from system (q + 1) (map later ports) (unsent_at q (later x) i)))
        ∙ one_sent p (q + 1) place ports port parts.1 (omega (arith, number)) there carrier)

  -- nor does sending at all ports
  pub unsent_from : (q : ℕ) (ports : List BridgePort) → after_sending_from q ports db ≡ db
  unsent_from q [] = refl
  unsent_from q (port ∷ ports) = ap (after_sending_from (q + 1) ports) (unsent_at q port) ∙ unsent_from (q + 1) ports

-- ---- the laws

carrier_port : (v : BridgeView) (p : ℕ) (o : Option BridgePort) → port_at v p ≡ o → has_carrier_in o ≡ true → (port : BridgePort) × ((port_at v p ≡ Some port) × (port.adjacency.carrier ≡ true))
carrier_port v p None there carrier = absurd cc
carrier_port v p (Some port) there carrier = (port, (there, carrier))

pub with_carrier_port : (v : BridgeView) (p : ℕ) → has_carrier_at v p ≡ true → (port : BridgePort) × ((port_at v p ≡ Some port) × (port.adjacency.carrier ≡ true))
unfolding has_carrier_at
with_carrier_port v p carrier = carrier_port v p (port_at v p) refl carrier

module _ (again : ControlAgain) (v : BridgeView) (p : ℕ) (was : IsSoundView v) (calm : IsCalmFor 1 v) (port : BridgePort) (there : port_at v p ≡ Some port) (carrier : port.adjacency.carrier ≡ true)
    (named : IsNamed (neighbour_at v p)) where
  same_id : (readied v).id ≡ v.id
  same_id = ap (λ (u : BridgeView). u.id) (readied_rest v)

  hello_sent : frames_at p (sent second v) ≡ hello_frame v.id.system p (later port) ∷ []
  unfolding sent_in_tick
  hello_sent =
      let at = found v.ports p port there in
      (λ i. frames_at p (sent_from (same_id i).system 1 (readied_ports v i) (readied_lowered v was calm i)))
      ∙ one_sent (lowered_db 1 v.database) (none_flagged v was calm) v.id.system p 1 (p - 1) v.ports port (none_due v was calm) (omega (arith, at.0)) at.1 carrier

  same_neighbour : neighbour_of (later port).adjacency ≡ neighbour_at v p
  same_neighbour = ap neighbour_of (port_kept v was calm p port there carrier).later ∙ sym (neighbour_found v p port there)

  greeting : IsGreetingOf v p (hello_frame v.id.system p (later port))
  greeting =
      let at = found v.ports p port there in
      let kept = port_kept v was calm p port there carrier in
      let within : p - 1 < length v.ports = slice_get_within v.ports (p - 1) port at.1 in
      record {
        hello = hello_at v.id.system p (later port);
        way = said p (later port).adjacency;
        parses = hello_heard again v.id.system p (later port) was.config.system.bytes was.config.system.octets (omega (arith, at.0, within, was.few)) (subst IsNamed (sym same_neighbour) named)
            (port_octets (later port) (later_sound port (sound_at v p port was.ports there)));
        level = refl;
        holding = refl;
        sender = refl;
        up = ap (λ (a : Adjacency). state_number a.state) kept.later ∙ ap state_number kept.up;
        named = same_neighbour;
      }

pub calm_second_greets : ControlAgain → CalmSecondGreets
calm_second_greets again v p was calm is carrier named =
    let g = with_carrier_port v p carrier in
    (hello_frame v.id.system p (later g.0), hello_sent again v p was calm g.0 g.1.0 g.1.1 named, greeting again v p was calm g.0 g.1.0 g.1.1 named)

pub calm_second_is_silent : CalmSecondIsSilent
calm_second_is_silent v p was calm none = none_at (sent second v) p (λ bytes is. absurd (true≢false (sym (sent_with_carrier v p bytes was is) ∙ none)))
