-- A PDU that is written as an LSP that is held is read as it.
use Rattle.std.proofs.Common.{◌≡◌, ℕ, ◌+◌, ◌≤◌, List, [], ◌∷◌, ◌++◌, length, take, drop, Bool, true, false, Ok, Err, refl, sym, ap, ◌∙◌, subst, arith, append_assoc, drop-cons, take-append-drop}
use Rattle.std.specs.Prelude.{IsTrue, ◌||◌, ◌==◌, if◌then◌else◌}
use Rattle.std.proofs.lemmas.Bool.Decides.{nat_tests}
use Rattle.std.proofs.lemmas.List.{length-drop}
use Rattle.spb_types.specs.Bytes.{u8_at}
use Rattle.isis_pdu.specs.declared.pdu.PduError.TheVariants as refusals
use Rattle.isis_pdu.specs.Grammar.{IsId, IsPdu, is_sound_lsp}
use Rattle.isis_pdu.specs.Pdu.{LspValue, lsp}
use Rattle.isis_pdu.specs.Reading.{read}
use Rattle.isis_pdu.specs.Spelling.{lsp_bytes}
use Rattle.isis_pdu.specs.Tlvs.{is_whole}
use Rattle.isis_pdu.proofs.FormatLaws.{written_again}
use Rattle.lsdb.specs.declared.version.Version.{Version}
use Rattle.lsdb.specs.declared.version.Version.TheVariants.{Live}
use Rattle.lsdb.specs.Version.{number_of, sum_of}
use Rattle.lsdb.specs.Entry.{Entry, AreKept}
use Rattle.flooding.specs.Entries.{IsSendable, IsNumbered}
use Rattle.flooding.specs.Own.{flags_in, tlvs_of_body}
use Rattle.bridge_control.specs.HeldLsp.{lsp_head}

not_zero : (n : ℕ) → 1 ≤ n → (n == 0) ≡ false
not_zero n h = grind (arith, nat_tests)

other_first : (a b c z : Bool) → a ≡ false → b ≡ false → (a || b || c) ≡ true → (z || b || c) ≡ true
other_first true b c z p q h = absurd cc
other_first false true c z p q h = absurd cc
other_first false false c true p q h = refl
other_first false false c false p q h = h

-- where a checksum holds at a lifetime, it holds at every one
sound_later : (l : LspValue) (lifetime : ℕ) → 1 ≤ lifetime → 1 ≤ l.seq → IsTrue (is_sound_lsp (record l { lifetime = lifetime })) → IsTrue (is_sound_lsp l)
unfolding is_sound_lsp
sound_later l lifetime living numbered sound =
    other_first (lifetime == 0) (l.seq == 0) _ (l.lifetime == 0) (not_zero lifetime living) (not_zero l.seq numbered) sound

-- an LSP of which this is held live
pub record IsHeldAs (l : LspValue) (e : Entry) : Type 0 where
  pub id : IsId l.id.system
  pub sendable : IsSendable l.id e
  pub live : e.version ≡ Live l.seq l.sum
  pub body : e.body ≡ l.flags ∷ l.tlvs

sound_held : (l : LspValue) (e : Entry) → IsHeldAs l e → IsTrue (is_sound_lsp l)
sound_held l e h =
    let P : Version → List ℕ → Type 0 = λ v body. IsTrue (is_sound_lsp (record { lifetime = e.lifetime; id = l.id; seq = number_of v; sum = sum_of v; flags = flags_in body; tlvs = tlvs_of_body body })) in
    let kept : (1 ≤ e.lifetime) × (1 ≤ length e.body) = subst (λ (v : Version). AreKept v e.lifetime e.body) h.live h.sendable.clean in
    let numbered : 1 ≤ l.seq = subst IsNumbered h.live h.sendable.numbered in
    sound_later l e.lifetime kept.0 numbered (subst (λ (body : List ℕ). P (Live l.seq l.sum) body) h.body (subst (λ (v : Version). P v e.body) h.live h.sendable.sound))

fits_held : (l : LspValue) (e : Entry) → IsHeldAs l e → IsPdu (lsp l)
fits_held l e h = record { ids = h.id; whole = subst (λ (body : List ℕ). IsTrue (is_whole (tlvs_of_body body))) h.body h.sendable.written.whole }

head_first : (l : LspValue) → lsp_head (27 + length l.tlvs) l.lifetime l.id l.seq l.sum ++ (l.flags ∷ l.tlvs) ≡ lsp_bytes l
unfolding lsp_bytes
head_first l = sym (append_assoc (lsp_head (27 + length l.tlvs) l.lifetime l.id l.seq l.sum) (l.flags ∷ []) l.tlvs)

pub read_as_held : (l : LspValue) (e : Entry) (pdu : List ℕ) → IsHeldAs l e → pdu ≡ lsp_head (27 + length l.tlvs) l.lifetime l.id l.seq l.sum ++ (l.flags ∷ l.tlvs) → read pdu ≡ Ok (lsp l)
read_as_held l e pdu h parts =
    ap read (parts ∙ head_first l) ∙ (written_again (lsp l) (fits_held l e h) ∙ ap (λ (b : Bool). if b then Ok (lsp l) else Err refusals.Sum) (sound_held l e h))

-- a PDU in two parts: the bytes before the flags octet, which are those of an LSP, and the body that is held
pub read_in_parts : (l : LspValue) (e : Entry) (pdu head : List ℕ) (len : ℕ) → IsId l.id.system → IsSendable l.id e → e.version ≡ Live l.seq l.sum → 27 ≤ length pdu → len ≡ length pdu → head ≡ lsp_head len l.lifetime l.id l.seq l.sum → l.flags ≡ u8_at pdu 26 → l.tlvs ≡ drop 27 pdu → take 26 pdu ≡ head → drop 26 pdu ≡ e.body → read pdu ≡ Ok (lsp l)
read_in_parts l e pdu head len id sendable live long len_is head_is flags tlvs first rest =
    let size : len ≡ 27 + length l.tlvs = omega (arith, length-drop 27 pdu, ap length tlvs, len_is, long) in
    let next : drop 26 pdu ≡ u8_at pdu 26 ∷ drop 27 pdu = drop-cons pdu 26 0 (omega arith) in
    let said : drop 26 pdu ≡ l.flags ∷ l.tlvs = next ∙ (ap (λ (b : ℕ). b ∷ drop 27 pdu) (sym flags) ∙ ap (λ (xs : List ℕ). l.flags ∷ xs) (sym tlvs)) in
    let begun : take 26 pdu ≡ lsp_head (27 + length l.tlvs) l.lifetime l.id l.seq l.sum = first ∙ (head_is ∙ ap (λ (n : ℕ). lsp_head n l.lifetime l.id l.seq l.sum) size) in
    read_as_held l e pdu (record { id = id; sendable = sendable; live = live; body = sym rest ∙ said })
    (sym (take-append-drop 26 pdu) ∙ (ap (λ (xs : List ℕ). xs ++ drop 26 pdu) begun ∙ ap (λ (ys : List ℕ). lsp_head (27 + length l.tlvs) l.lifetime l.id l.seq l.sum ++ ys) said))
