-- Which request a reply takes, over all records.
use Rattle.std.specs.Prelude.{◌≡◌, ℕ, ◌<◌, ◌^◌, Bool, true, false, ◌&&◌, not, if◌then◌else◌, List, [], ◌∷◌, ◌++◌, take, drop, fold, Option, None, Some}
use Rattle.std.specs.List.{find}
use Rattle.std.specs.Str.{bytes_eq}
use Rattle.ntp_capture.specs.Packets.{leap_of, stratum_of, origin_of, receive_of, transmit_of, unix_time, is_request, is_reply, is_usable}
use Rattle.ntp_capture.specs.declared.exchanges.Exchange.{Exchange}
use Rattle.ntp_capture.specs.declared.exchanges.Got.{Got}
use Rattle.ntp_capture.specs.declared.exchanges.Got.TheVariants as got
use Rattle.ntp_capture.specs.declared.matches.Request.{Request}
use Rattle.ntp_capture.specs.declared.pieces.Record.{Record}

-- how many of the last requests a reply may take
abbrev pub request_limit : ℕ
request_limit = 16

-- a request that no reply took has the transmit time that the reply has as its origin
abbrev pub fits : Record → Request → Bool
fits reply q = not q.taken && bytes_eq q.mark (origin_of reply.packet)

-- the request that a reply takes, among all before it, the latest first
abbrev pub match_of : List Request → Record → Option Request
match_of requests reply = if is_usable reply.packet then find (fits reply) (take request_limit requests) else None

-- the first that fits is taken
abbrev pub first_taken : (Request → Bool) → List Request → List Request
first_taken p [] = []
first_taken p (q ∷ qs) = if p q then record q { taken = true } ∷ qs else q ∷ first_taken p qs

-- all requests behind one more record, the latest first
unfoldable pub requests_with : List Request → Record → List Request
requests_with requests r =
    if is_request r then record { count = r.count; mark = transmit_of r.packet; taken = false } ∷ requests
    else if is_reply r && is_usable r.packet then first_taken (fits r) (take request_limit requests) ++ drop request_limit requests
    else requests

-- all requests of records, the latest first
abbrev pub requests_of : List Record → List Request
requests_of records = fold requests_with [] records

-- what an exchange says
abbrev pub exchange_of : Record → Request → Exchange
exchange_of reply q = record {
  ta = q.count;
  tb = unix_time (receive_of reply.packet);
  te = unix_time (transmit_of reply.packet);
  tf = reply.count;
  stratum = stratum_of reply.packet;
  leap = leap_of reply.packet;
}

abbrev pub reply_gives : Record → Option Request → Got
reply_gives reply None = got.Unused
reply_gives reply (Some q) = got.Exchange (exchange_of reply q)

-- what a record gives behind these requests
unfoldable pub got_by : List Request → Record → Got
got_by requests r = if is_reply r then reply_gives r (match_of requests r) else got.Nothing

-- what each of some records gives, behind these requests
abbrev pub gots_from : List Request → List Record → List Got
gots_from requests [] = []
gots_from requests (r ∷ rs) = got_by requests r ∷ gots_from (requests_with requests r) rs

-- what each record of a list gives
unfoldable pub gots : List Record → List Got
gots records = gots_from [] records

-- the nanoseconds of an exchange are less than a second
abbrev pub IsExchangeTimed : Exchange → Type 0
IsExchangeTimed e = (e.tb.1 < 10 ^ 9) × (e.te.1 < 10 ^ 9)

abbrev pub IsGotInRange : Got → Type 0
IsGotInRange (got.Exchange e) = IsExchangeTimed e
IsGotInRange _ = Unit {0}

-- a matcher that keeps these requests may have been given these records
abbrev pub StandsFor : List Request → List Record → Type 0
StandsFor kept records = kept ≡ take request_limit (requests_of records)
