pub mod RateLaws
