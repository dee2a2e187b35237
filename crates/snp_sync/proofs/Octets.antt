-- Bodies stay octets, whatever entries were heard.
use Rattle.std.specs.Prelude.{ℕ, Bool, true, false, [], ◌∷◌}
use Rattle.isis_pdu.specs.Grammar.{IsBytes}
use Rattle.lsdb.specs.Entry.{Entry}
use Rattle.flooding.specs.Hearing.{Holding, snp_rule, hear_entry_of}
use Rattle.flooding.proofs.Owns.{own_stands}
use Rattle.flooding.proofs.Octets.{says_then, entry_keeps_octets}
use Rattle.snp_sync.specs.Hearing.{hear_entries_of, ids_of, is_missed, flag_if}
use Rattle.snp_sync.specs.HearingLaws.{EntriesKeepOctets, CsnpKeepsOctets}
use Rattle.snp_sync.proofs.Stays.{all_each}

pub entries_keep_octets : EntriesKeepOctets
entries_keep_octets up port [] h says all = all
entries_keep_octets up port (c ∷ claims) h says all =
    let g : Holding = hear_entry_of up port c h in
    entries_keep_octets up port claims g (says_then h.own g.own (own_stands (snp_rule up port c.version) up c h).1 says) (entry_keeps_octets up port c h says all)

flag_octets : (port : ℕ) (e : Entry) (b : Bool) → IsBytes e.body → IsBytes (flag_if b port e).body
flag_octets port e true octets = octets
flag_octets port e false octets = octets

pub csnp_keeps_octets : CsnpKeepsOctets
csnp_keeps_octets up port start end claims h says all =
    all_each (λ id e. IsBytes e.body) (λ id e. flag_if (is_missed start end (ids_of claims) id e) port e) (hear_entries_of up port claims h).db
    (entries_keep_octets up port claims h says all) (λ x e octets. flag_octets port e (is_missed start end (ids_of claims) x e) octets)
