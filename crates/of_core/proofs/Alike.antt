-- The facts of a place hold of every machine with the same fields.
use Rattle.std.proofs.Common.{◌≡◌, ℕ, ◌<◌, ◌≤◌, inl, inr, List, ◌∙◌, arith, Bool, true, false}
use Rattle.of_core.specs.Table.{Setup}
use Rattle.of_core.specs.Machine.{CallState, log_entry}
use Rattle.of_core.specs.TableMoment.{Batch, TableStart}
use Rattle.of_core.specs.Rounds.{KnowsOwnRequest, IsInTry, MayHelp, IsUnannounced, IsAnnounced, IsInRound, IsPastRequest, IsPastOwnTicket, HasNothingUnderWay}
use Rattle.of_core.specs.Transaction.{IsApplied, IsHelping, AppliesAs, IsApplying}
use Rattle.of_core.specs.Places.{IsAtCaller, IsAtEntry}

module _ {S : Setup} {B : TableStart} {ws : List ℕ} {bs : List Batch} {i : ℕ} where
  pub calm_more : {n k : ℕ} → n ≤ k → HasNothingUnderWay S B ws bs i n → HasNothingUnderWay S B ws bs i k
  calm_more {n} {k} l c = record { own = omega (arith, c.own); level = c.level; shut = c.shut; logs = λ y u. omega (arith, c.logs y u) }

  -- from the machine n to the machine q
  module _ {n q : CallState} where
    -- the word that it knows its request to have may be another one
    pub begun_to : IsAnnounced S B ws bs i n → q.caller ≡ n.caller → q.made ≡ n.made → q.op ≡ n.op → q.rounds ≡ n.rounds → q.first ≡ n.first → KnowsOwnRequest B ws bs i q.kept → IsAnnounced S B ws bs i q
    begun_to p a b o r f k = record {
      caller = a ∙ p.caller;
      ticket = rw b p.ticket;
      words = rw o p.words;
      some = rw o p.some;
      kept = k;
      says = rw (b, o) p.says;
      script = rw o p.script;
      upto = rw b p.upto;
      beyond = rw b p.beyond;
      mine = rw (b, o) p.mine;
      known = rw (r, f) p.known;
    }

    pub round_to : IsInRound S B ws bs i n → q.caller ≡ n.caller → q.made ≡ n.made → q.op ≡ n.op → q.seq ≡ n.seq → q.owner ≡ n.owner → q.rounds ≡ n.rounds → q.first ≡ n.first → KnowsOwnRequest B ws bs i q.kept → IsInRound S B ws bs i q
    round_to p a b o c d r f k = record {
      begun = begun_to p.begun a b o r f k;
      current_word = rw (c, d) p.current_word;
      unowned = rw c p.unowned;
      later = rw (c, r, f) p.later;
      begun_one = rw r p.begun_one;
      few = rw r p.few;
    }

    pub past_to : IsPastOwnTicket S B ws bs i n → q.caller ≡ n.caller → q.made ≡ n.made → q.op ≡ n.op → q.seq ≡ n.seq → q.owner ≡ n.owner → q.rounds ≡ n.rounds → q.first ≡ n.first → q.known ≡ n.known → KnowsOwnRequest B ws bs i q.kept → IsPastOwnTicket S B ws bs i q
    past_to p a b o c d r f e k = record {
      looks = record {
        round = round_to p.looks.round a b o c d r f k;
        state = rw (c, e) p.looks.state;
      };
      under = rw c p.under;
      left = rw (b, c) p.left;
    }

    pub begun_as : IsAnnounced S B ws bs i n → q.caller ≡ n.caller → q.made ≡ n.made → q.op ≡ n.op → q.kept ≡ n.kept → q.rounds ≡ n.rounds → q.first ≡ n.first → IsAnnounced S B ws bs i q
    begun_as p a b o x r f = begun_to p a b o r f (rw x p.kept)

    pub round_as : IsInRound S B ws bs i n → q.caller ≡ n.caller → q.made ≡ n.made → q.op ≡ n.op → q.seq ≡ n.seq → q.owner ≡ n.owner → q.kept ≡ n.kept → q.rounds ≡ n.rounds → q.first ≡ n.first → IsInRound S B ws bs i q
    round_as p a b o c d x r f = round_to p a b o c d r f (rw x p.begun.kept)

    pub looks_as : IsPastRequest S B ws bs i n → q.caller ≡ n.caller → q.made ≡ n.made → q.op ≡ n.op → q.seq ≡ n.seq → q.owner ≡ n.owner → q.kept ≡ n.kept → q.rounds ≡ n.rounds → q.first ≡ n.first → q.known ≡ n.known → IsPastRequest S B ws bs i q
    looks_as p a b o c d x r f e = record { round = round_as p.round a b o c d x r f; state = rw (c, e) p.state }

    pub past_as : IsPastOwnTicket S B ws bs i n → q.caller ≡ n.caller → q.made ≡ n.made → q.op ≡ n.op → q.seq ≡ n.seq → q.owner ≡ n.owner → q.kept ≡ n.kept → q.rounds ≡ n.rounds → q.first ≡ n.first → q.known ≡ n.known → IsPastOwnTicket S B ws bs i q
    past_as p a b o c d x r f e = past_to p a b o c d r f e (rw x p.looks.round.begun.kept)

    -- what was learnt or loaded is no matter to a scan
    pub scanning_as : IsAtCaller S B ws bs i n → IsPastOwnTicket S B ws bs i q → q.made ≡ n.made → q.op ≡ n.op → q.seq ≡ n.seq → q.raw ≡ n.raw → q.calls ≡ n.calls → q.log ≡ n.log → q.scan ≡ n.scan → IsAtCaller S B ws bs i q
    scanning_as p past b o c r cs l s = record { past = past; calm = rw c p.calm; scan = rw (c, b, o, r, cs, l, s) p.scan; in_range = rw s p.in_range }

    pub fresh_as : IsUnannounced S B ws bs i n → q.caller ≡ n.caller → q.made ≡ n.made → q.op ≡ n.op → q.kept ≡ n.kept → q.rounds ≡ n.rounds → IsUnannounced S B ws bs i q
    fresh_as p a b o x r = record { caller = a ∙ p.caller; ticket = rw b p.ticket; words = rw o p.words; some = rw o p.some; kept = rw x p.kept; above = rw b p.above; quieted = p.quieted; settled = p.settled; newer = rw b p.newer; rounds = r ∙ p.rounds }

    pub trying_as : IsInTry S B ws bs i n → q.caller ≡ n.caller → q.made ≡ n.made → q.op ≡ n.op → q.kept ≡ n.kept → q.rounds ≡ n.rounds → q.tries ≡ n.tries → IsInTry S B ws bs i q
    trying_as p a b o x r t = record { fresh = fresh_as p.fresh a b o x r; reads = rw o p.reads; few = rw t p.few }

    pub helper_as : MayHelp S B ws bs i n → q.caller ≡ n.caller → q.made ≡ n.made → q.op ≡ n.op → q.seq ≡ n.seq → q.owner ≡ n.owner → q.kept ≡ n.kept → q.rounds ≡ n.rounds → q.first ≡ n.first → q.tries ≡ n.tries → MayHelp S B ws bs i q
    helper_as (inl p) a b o c d x r f t = inl (round_as p a b o c d x r f)
    helper_as (inr p) a b o c d x r f t = inr (trying_as p a b o x r t)

    pub helping_as : IsHelping S B ws bs i n → q.caller ≡ n.caller → q.made ≡ n.made → q.op ≡ n.op → q.seq ≡ n.seq → q.owner ≡ n.owner → q.kept ≡ n.kept → q.rounds ≡ n.rounds → q.first ≡ n.first → q.tries ≡ n.tries → IsHelping S B ws bs i q
    helping_as p a b o c d x r f t = record { helper = helper_as p.helper a b o c d x r f t; current_word = rw (c, d) p.current_word; calm = rw c p.calm }

    -- an applying machine goes on with the entries that are done
    pub applies_as : {j k : ℕ} → IsApplying S B ws bs i n j → q.caller ≡ n.caller → q.made ≡ n.made → q.op ≡ n.op → q.seq ≡ n.seq → q.owner ≡ n.owner → q.log ≡ n.log → q.raw ≡ n.raw → q.helps ≡ n.helps → q.kept ≡ n.kept → q.rounds ≡ n.rounds → q.first ≡ n.first → q.tries ≡ n.tries
        → ((y : ℕ) → y < k → IsApplied S ws n.seq (log_entry n y).0) → IsApplying S B ws bs i q k
    applies_as p a b o c d l w h x r f t done = record {
      mode = mode n.helps q.helps h p.mode;
      after = rw c p.after;
      upto = rw c p.upto;
      committed = rw (c, d) p.committed;
      log = rw (c, l) p.log;
      done = rw (c, l) done;
    }
      where
        mode : (u v : Bool) → v ≡ u → AppliesAs S B ws bs i n u → AppliesAs S B ws bs i q v
        mode true true z p = helping_as p a b o c d x r f t
        mode false false z p = record { caller = a ∙ p.caller; owner = d ∙ p.owner; says = rw b p.says; upto = rw b p.upto; reached = rw b p.reached; call = rw (b, o, c, w) p.call; asks = rw c p.asks; unowned = rw c p.unowned; logs = rw c p.logs }
        mode true false z p = cc
        mode false true z p = cc

    pub entry_as : {j : ℕ} → IsAtEntry S B ws bs i n j → q.caller ≡ n.caller → q.made ≡ n.made → q.op ≡ n.op → q.seq ≡ n.seq → q.owner ≡ n.owner → q.log ≡ n.log → q.raw ≡ n.raw → q.helps ≡ n.helps → q.kept ≡ n.kept → q.rounds ≡ n.rounds → q.first ≡ n.first → q.tries ≡ n.tries → IsAtEntry S B ws bs i q j
    entry_as p a b o c d l w h x r f t = record { applies = applies_as p.applies a b o c d l w h x r f t p.applies.done; more = rw l p.more; durable = rw c p.durable }
