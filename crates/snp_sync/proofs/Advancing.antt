-- What stands under an id of the own system goes on, whatever sequence numbers PDUs say.
use Rattle.std.specs.Prelude.{ℕ, Bool, true, false, [], ◌∷◌, Option, Some, None}
use Rattle.std.proofs.Common.{refl, sym, subst, ◌∙◌}
use Rattle.std.specs.Option.{option_map}
use Rattle.std.specs.FinMap.{get}
use Rattle.spb_types.specs.declared.address.LspId.{LspId}
use Rattle.lsdb.specs.Entry.{Entry}
use Rattle.lsdb.proofs.LookupLemmas.{get-each}
use Rattle.flooding.specs.Hearing.{Holding, snp_rule, hear_entry_of}
use Rattle.flooding.specs.Advancing.{Advanced, stays}
use Rattle.flooding.proofs.Owns.{own_stands}
use Rattle.flooding.proofs.Advancing.{advances_compose, entry_advances}
use Rattle.snp_sync.specs.Hearing.{hear_entries_of, ids_of, is_missed, flag_if, hear_csnp_of}
use Rattle.snp_sync.specs.Advancing.{EntriesAdvance, CsnpAdvances}

pub entries_advance : EntriesAdvance
entries_advance up port [] h id mine = stays refl refl
entries_advance up port (c ∷ claims) h id mine =
    let g : Holding = hear_entry_of up port c h in
    let system = (own_stands (snp_rule up port c.version) up c h).0 in
    advances_compose (get h.db id) (get g.db id) (get (hear_entries_of up port claims g).db id) (entry_advances up port c h id mine) (entries_advance up port claims g id (mine ∙ sym system))

flag_stays : (port : ℕ) (e : Entry) (b : Bool) → Advanced (Some e) (Some (flag_if b port e))
flag_stays port e true = stays refl refl
flag_stays port e false = stays refl refl

flagged_stays : (port : ℕ) (missed : Entry → Bool) (o : Option Entry) → Advanced o (option_map (λ e. flag_if (missed e) port e) o)
flagged_stays port missed None = stays refl refl
flagged_stays port missed (Some e) = flag_stays port e (missed e)

pub csnp_advances : CsnpAdvances
csnp_advances up port start end claims h id mine =
    let heard : Holding = hear_entries_of up port claims h in
    let missed : LspId → Entry → Bool = is_missed start end (ids_of claims) in
    advances_compose (get h.db id) (get heard.db id) (get (hear_csnp_of up port start end claims h).db id) (entries_advance up port claims h id mine)
    (subst (Advanced (get heard.db id)) (sym (get-each (λ x e. flag_if (missed x e) port e) heard.db id)) (flagged_stays port (missed id) (get heard.db id)))
